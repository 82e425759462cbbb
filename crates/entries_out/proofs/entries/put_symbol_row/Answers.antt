use Rattle.entries_out.proofs.Laws.{symbol}
use Rattle.entries_out.proofs.entries.put_symbol_row.Goals as goal

pub symbol_cell-is_ref-requires : goal.symbol_cell-is_ref-requires
symbol_cell-is_ref-requires c = search symbol

pub symbol_cell-value-requires : goal.symbol_cell-value-requires
symbol_cell-value-requires c = search symbol

pub symbol_name-requires : goal.symbol_name-requires
symbol_name-requires c = search symbol

pub put_symbol-requires : goal.put_symbol-requires
put_symbol-requires c = search symbol

pub shape_of-out : goal.shape_of-out
shape_of-out c = search symbol

pub returns : goal.returns
returns c = search symbol
