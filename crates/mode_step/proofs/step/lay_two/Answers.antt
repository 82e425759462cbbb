use Rattle.mode_step.proofs.StepLaws.{laying-two}
use Rattle.mode_step.proofs.step.lay_two.Goals as goal

pub returns-then-t-i : goal.returns-then-t-i
returns-then-t-i c = search laying-two

pub returns : goal.returns
returns c = search laying-two
