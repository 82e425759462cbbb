use Rattle.symbol_sides.proofs.Laws.{sides}
use Rattle.symbol_sides.proofs.sides.on_one_side.Goals as goal

pub returns-then-first_named-i : goal.returns-then-first_named-i
returns-then-first_named-i c = search sides

pub returns : goal.returns
returns c = search sides
