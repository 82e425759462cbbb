use Rattle.grouped.proofs.Laws.{grouping}
use Rattle.grouped.proofs.area_rows.Goals as goal

pub loop-i-init : goal.loop-i-init
loop-i-init c = search grouping

pub row_to-q-requires : goal.row_to-q-requires
row_to-q-requires c = search grouping

pub loop-i-preserved : goal.loop-i-preserved
loop-i-preserved c = search grouping

pub returns : goal.returns
returns c = search grouping
