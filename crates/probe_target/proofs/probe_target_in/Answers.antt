use Rattle.probe_target.proofs.Laws.{probes}
use Rattle.probe_target.proofs.probe_target_in.Goals as goal

pub target_in-answer-requires : goal.target_in-answer-requires
target_in-answer-requires c = search probes

pub target_answer-requires : goal.target_answer-requires
target_answer-requires c = search probes

pub returns : goal.returns
returns c = search probes
