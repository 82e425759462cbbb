use Rattle.alike.proofs.Fixups.{placed}
use Rattle.alike.proofs.like.same_placed.Goals as goal

pub returns-then-fixup_cell-position : goal.returns-then-fixup_cell-position
returns-then-fixup_cell-position c = search placed
