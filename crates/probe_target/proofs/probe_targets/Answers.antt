use Rattle.probe_target.proofs.Laws.{rows}
use Rattle.probe_target.proofs.probe_targets.Goals as goal

pub class_table-table-requires : goal.class_table-table-requires
class_table-table-requires c = search rows

pub rows-n-requires : goal.rows-n-requires
rows-n-requires c = search rows

pub loop-i-init : goal.loop-i-init
loop-i-init c = search rows

pub row_target-value-requires : goal.row_target-value-requires
row_target-value-requires c = search rows

pub put-requires : goal.put-requires
put-requires c = search rows

pub loop-i-preserved : goal.loop-i-preserved
loop-i-preserved c = search rows

pub shape_of-out : goal.shape_of-out
shape_of-out c = search rows

pub returns : goal.returns
returns c = search rows
