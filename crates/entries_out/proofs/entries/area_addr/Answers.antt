use Rattle.entries_out.proofs.Laws.{addr}
use Rattle.entries_out.proofs.entries.area_addr.Goals as goal

pub returns-then-area_cell-eq1 : goal.returns-then-area_cell-eq1
returns-then-area_cell-eq1 c = search addr

pub returns : goal.returns
returns c = search addr
