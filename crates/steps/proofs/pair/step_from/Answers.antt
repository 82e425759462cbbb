use Rattle.steps.proofs.PairSteps.{froms}
use Rattle.steps.proofs.pair.step_from.Goals as goal

pub returns-in_default : goal.returns-in_default
returns-in_default c = search froms

pub overflow_sub-k : goal.overflow_sub-k
overflow_sub-k c = search froms

pub overflow_add-p : goal.overflow_add-p
overflow_add-p c = search froms

pub returns-in-Stops : goal.returns-in-Stops
returns-in-Stops c = search froms

pub returns-in-Goes : goal.returns-in-Goes
returns-in-Goes c = search froms

pub returns-in-Last : goal.returns-in-Last
returns-in-Last c = search froms
