use Rattle.told_beside.proofs.Laws.{judging}
use Rattle.told_beside.proofs.judge.Goals as goal

pub enum_told-1 : goal.enum_told-1
enum_told-1 c = search judging

pub enum_known-verdict : goal.enum_known-verdict
enum_known-verdict c = search judging

pub stop_halt-halt-requires : goal.stop_halt-halt-requires
stop_halt-halt-requires c = search judging

pub returns-in-Finished : goal.returns-in-Finished
returns-in-Finished c = search judging

pub returns-in-Stopped : goal.returns-in-Stopped
returns-in-Stopped c = search judging
