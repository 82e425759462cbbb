use Rattle.cells.proofs.Laws.{fill_some, fill_none}
use Rattle.cells.proofs.fill_bytes.Goals as goal

pub returns-then-k-gt0 : goal.returns-then-k-gt0
returns-then-k-gt0 c = fill_some _ _ _ _ c.room-k.ensures _ c.if-k-gt0.true (c.fill.ensures.after (λ _ e. e))

pub returns-else-k-gt0 : goal.returns-else-k-gt0
returns-else-k-gt0 c = fill_none _ _ _ _ c.room-k.ensures c.if-k-gt0.false
