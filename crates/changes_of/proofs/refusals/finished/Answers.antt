use Rattle.changes_of.proofs.Answers.{finishes}
use Rattle.changes_of.proofs.refusals.finished.Goals as goal

pub returns-in-Stopped : goal.returns-in-Stopped
returns-in-Stopped c = search finishes

pub returns-in-Stopped-other : goal.returns-in-Stopped-other
returns-in-Stopped-other c = search finishes

pub returns-in-Finished-other : goal.returns-in-Finished-other
returns-in-Finished-other c = search finishes
