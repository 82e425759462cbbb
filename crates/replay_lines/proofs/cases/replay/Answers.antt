use Rattle.replay_lines.proofs.Laws.{replaying}
use Rattle.std.proofs.Common.{◌-◌}
use Rattle.replay_lines.proofs.cases.replay.Goals as goal

pub loop-p-init : goal.loop-p-init
loop-p-init c = search replaying

pub line_at-l-requires : goal.line_at-l-requires
line_at-l-requires c = search replaying

pub overflow_add-result : goal.overflow_add-result
overflow_add-result c = search replaying

pub returns-then-next-p : goal.returns-then-next-p
returns-then-next-p c = search replaying

pub slice_bounds-differs-count : goal.slice_bounds-differs-count
slice_bounds-differs-count c = search replaying

pub slice_bounds-differs-start : goal.slice_bounds-differs-start
slice_bounds-differs-start c = search replaying

pub slice_bounds-differs-end : goal.slice_bounds-differs-end
slice_bounds-differs-end c = search replaying

pub differs-differ-requires : goal.differs-differ-requires
differs-differ-requires c = search replaying

pub overflow_add-differ : goal.overflow_add-differ
overflow_add-differ c = search replaying

pub overflow_add-cases : goal.overflow_add-cases
overflow_add-cases c = search replaying

pub loop-p-smaller : goal.loop-p-smaller
loop-p-smaller c = search replaying

pub loop-p-preserved : goal.loop-p-preserved
loop-p-preserved c = search replaying

pub returns : goal.returns
returns c = search replaying
