use Rattle.reading_numbers.proofs.Laws.{ended-numbers}
use Rattle.reading_numbers.proofs.beside.accepted_ended.Goals as goal

pub enum_told-1 : goal.enum_told-1
enum_told-1 c = search ended-numbers

pub counted-requires : goal.counted-requires
counted-requires c = search ended-numbers

pub with_halt-requires : goal.with_halt-requires
with_halt-requires c = search ended-numbers

pub enum_known-verdict : goal.enum_known-verdict
enum_known-verdict c = search ended-numbers

pub counted-requires-in-Stopped : goal.counted-requires-in-Stopped
counted-requires-in-Stopped c = search ended-numbers

pub wide-requires : goal.wide-requires
wide-requires c = search ended-numbers

pub with_halt-requires-in-Stopped : goal.with_halt-requires-in-Stopped
with_halt-requires-in-Stopped c = search ended-numbers

pub returns-in-Finished : goal.returns-in-Finished
returns-in-Finished c = search ended-numbers

pub returns-in-Stopped : goal.returns-in-Stopped
returns-in-Stopped c = search ended-numbers
