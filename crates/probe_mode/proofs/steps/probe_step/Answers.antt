use Rattle.probe_mode.proofs.Laws.{probes}
use Rattle.probe_mode.proofs.steps.probe_step.Goals as goal

pub class_in-class-requires : goal.class_in-class-requires
class_in-class-requires c = search probes

pub modify_cmf_to_fixup-step-requires : goal.modify_cmf_to_fixup-step-requires
modify_cmf_to_fixup-step-requires c = search probes

pub step_answer-requires : goal.step_answer-requires
step_answer-requires c = search probes

pub shape_of-values : goal.shape_of-values
shape_of-values c = search probes

pub shape_of-masks : goal.shape_of-masks
shape_of-masks c = search probes

pub shape_of-kept : goal.shape_of-kept
shape_of-kept c = search probes

pub returns : goal.returns
returns c = search probes
