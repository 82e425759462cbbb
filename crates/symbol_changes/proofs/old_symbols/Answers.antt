use Rattle.symbol_changes.proofs.Names.{gathers}
use Rattle.symbol_changes.proofs.old_symbols.Goals as goal

pub loop-i-init : goal.loop-i-init
loop-i-init c = search gathers

pub old_symbol-count-requires : goal.old_symbol-count-requires
old_symbol-count-requires c = search gathers

pub loop-i-preserved : goal.loop-i-preserved
loop-i-preserved c = search gathers

pub shape_of-list : goal.shape_of-list
shape_of-list c = search gathers

pub returns : goal.returns
returns c = search gathers
