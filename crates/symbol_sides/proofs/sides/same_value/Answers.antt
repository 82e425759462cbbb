use Rattle.symbol_sides.proofs.Laws.{values}
use Rattle.symbol_sides.proofs.sides.same_value.Goals as goal

pub symbol_value-requires : goal.symbol_value-requires
symbol_value-requires c = search values

pub symbol_value-requires-2 : goal.symbol_value-requires-2
symbol_value-requires-2 c = search values

pub returns : goal.returns
returns c = search values
