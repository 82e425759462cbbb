use Rattle.entries_out.proofs.Laws.{area}
use Rattle.entries_out.proofs.entries.put_area_row.Goals as goal

pub area_cell-requires : goal.area_cell-requires
area_cell-requires c = search area

pub area_cell-requires-2 : goal.area_cell-requires-2
area_cell-requires-2 c = search area

pub area_name-requires : goal.area_name-requires
area_name-requires c = search area

pub put_area-requires : goal.put_area-requires
put_area-requires c = search area

pub shape_of-out : goal.shape_of-out
shape_of-out c = search area

pub returns : goal.returns
returns c = search area
