use Rattle.entries_out.proofs.Laws.{entries}
use Rattle.entries_out.proofs.entries.put_entries.Goals as goal

pub loop-j-init : goal.loop-j-init
loop-j-init c = search entries

pub symbol_cell-requires : goal.symbol_cell-requires
symbol_cell-requires c = search entries

pub wide-c-requires : goal.wide-c-requires
wide-c-requires c = search entries

pub put_areas-p-requires : goal.put_areas-p-requires
put_areas-p-requires c = search entries

pub put_symbol_row-p-requires : goal.put_symbol_row-p-requires
put_symbol_row-p-requires c = search entries

pub loop-j-preserved : goal.loop-j-preserved
loop-j-preserved c = search entries

pub put_areas-requires : goal.put_areas-requires
put_areas-requires c = search entries

pub shape_of-out : goal.shape_of-out
shape_of-out c = search entries

pub returns : goal.returns
returns c = search entries
