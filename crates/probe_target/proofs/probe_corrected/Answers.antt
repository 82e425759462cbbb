use Rattle.probe_target.proofs.Laws.{probes}
use Rattle.probe_target.proofs.probe_corrected.Goals as goal

pub corrected_target-answer-requires : goal.corrected_target-answer-requires
corrected_target-answer-requires c = search probes

pub target_answer-requires : goal.target_answer-requires
target_answer-requires c = search probes

pub returns : goal.returns
returns c = search probes
