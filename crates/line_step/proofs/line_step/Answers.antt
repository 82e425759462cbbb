use Rattle.line_step.proofs.Laws.{stepping}
use Rattle.line_step.proofs.line_step.Goals as goal

pub whole-requires : goal.whole-requires
whole-requires c = search stepping

pub record_end-requires : goal.record_end-requires
record_end-requires c = search stepping

pub returns-then-whole : goal.returns-then-whole
returns-then-whole c = search stepping

pub returns-then-ended : goal.returns-then-ended
returns-then-ended c = search stepping

pub returns : goal.returns
returns c = search stepping
