use Rattle.mode_step.proofs.StepLaws.{laying}
use Rattle.mode_step.proofs.step.lay.Goals as goal

pub returns : goal.returns
returns c = search laying
