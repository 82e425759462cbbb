use Rattle.reading_numbers.proofs.Laws.{numbers}
use Rattle.reading_numbers.proofs.accepted.Goals as goal

pub enum_told-1 : goal.enum_told-1
enum_told-1 c = search numbers

pub counted-requires : goal.counted-requires
counted-requires c = search numbers

pub enum_known-verdict : goal.enum_known-verdict
enum_known-verdict c = search numbers

pub counted-requires-in-Stopped : goal.counted-requires-in-Stopped
counted-requires-in-Stopped c = search numbers

pub returns-in-Finished : goal.returns-in-Finished
returns-in-Finished c = search numbers

pub returns-in-Stopped : goal.returns-in-Stopped
returns-in-Stopped c = search numbers
