use Rattle.cells.proofs.Laws.{copy_some, copy_none}
use Rattle.cells.proofs.copy.Goals as goal

pub returns-then-k-gt0 : goal.returns-then-k-gt0
returns-then-k-gt0 g c = copy_some _ _ _ _ c.room.ensures c.room-k.ensures _ c.if-k-gt0.true c.copy_from_slice.ensures.after

pub returns-else-k-gt0 : goal.returns-else-k-gt0
returns-else-k-gt0 g c = copy_none _ _ _ _ c.room.ensures c.room-k.ensures c.if-k-gt0.false
