use Rattle.mode_step.proofs.StepLaws.{stepping}
use Rattle.mode_step.proofs.step.modify_cmf_to_fixup.Goals as goal

pub returns : goal.returns
returns c = search stepping
