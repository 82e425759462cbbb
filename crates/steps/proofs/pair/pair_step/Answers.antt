use Rattle.steps.proofs.EmptySteps.{empties}
use Rattle.steps.proofs.pair.pair_step.Goals as goal

pub overflow_add-p : goal.overflow_add-p
overflow_add-p c = search empties

pub overflow_add-p-in-Some : goal.overflow_add-p-in-Some
overflow_add-p-in-Some c = search empties

pub overflow_add-result : goal.overflow_add-result
overflow_add-result c = search empties

pub returns-in-Some : goal.returns-in-Some
returns-in-Some c = search empties

pub returns-in-None : goal.returns-in-None
returns-in-None c = search empties
