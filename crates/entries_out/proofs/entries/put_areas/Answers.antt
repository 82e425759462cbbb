use Rattle.entries_out.proofs.Laws.{areas}
use Rattle.entries_out.proofs.entries.put_areas.Goals as goal

pub loop-i-init : goal.loop-i-init
loop-i-init c = search areas

pub put_area_row-p-requires : goal.put_area_row-p-requires
put_area_row-p-requires c = search areas

pub loop-i-preserved : goal.loop-i-preserved
loop-i-preserved c = search areas

pub shape_of-out : goal.shape_of-out
shape_of-out c = search areas

pub returns : goal.returns
returns c = search areas
