use Rattle.grouped.proofs.Laws.{ordering}
use Rattle.grouped.proofs.areas_rows.Goals as goal

pub loop-id-init : goal.loop-id-init
loop-id-init c = search ordering

pub area_rows-p-requires : goal.area_rows-p-requires
area_rows-p-requires c = search ordering

pub loop-id-preserved : goal.loop-id-preserved
loop-id-preserved c = search ordering

pub returns : goal.returns
returns c = search ordering
