use Rattle.changes_of.proofs.Answers.{boths}
use Rattle.changes_of.proofs.refusals.answered.Goals as goal

pub returns-in-Err : goal.returns-in-Err
returns-in-Err c = search boths

pub returns-in-Err-second : goal.returns-in-Err-second
returns-in-Err-second c = search boths

pub returns-in-Ok-second : goal.returns-in-Ok-second
returns-in-Ok-second c = search boths
