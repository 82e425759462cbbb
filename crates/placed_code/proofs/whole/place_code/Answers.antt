use Rattle.placed_code.proofs.WholeLaws.{lending}
use Rattle.placed_code.proofs.whole.place_code.Goals as goal

pub returns-then-out-lt-IMAGE_ROOM : goal.returns-then-out-lt-IMAGE_ROOM
returns-then-out-lt-IMAGE_ROOM c = search lending

pub slice_bounds-by_records-end : goal.slice_bounds-by_records-end
slice_bounds-by_records-end c = search lending

pub slice_bounds-by_records-end-2 : goal.slice_bounds-by_records-end-2
slice_bounds-by_records-end-2 c = search lending

pub slice_bounds-by_records-end-3 : goal.slice_bounds-by_records-end-3
slice_bounds-by_records-end-3 c = search lending

pub by_records-requires : goal.by_records-requires
by_records-requires c = search lending

pub shape_of-out : goal.shape_of-out
shape_of-out c = search lending

pub returns : goal.returns
returns c = search lending
