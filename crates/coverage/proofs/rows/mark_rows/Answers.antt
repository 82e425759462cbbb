use Rattle.coverage.proofs.RowLaws.{rows}
use Rattle.coverage.proofs.rows.mark_rows.Goals as goal

pub loop-k-init : goal.loop-k-init
loop-k-init c = search rows

pub overflow_mul-k : goal.overflow_mul-k
overflow_mul-k c = search rows

pub mark_row-requires : goal.mark_row-requires
mark_row-requires c = search rows

pub loop-k-preserved : goal.loop-k-preserved
loop-k-preserved c = search rows

pub shape_of-map : goal.shape_of-map
shape_of-map c = search rows

pub returns : goal.returns
returns c = search rows
