use Rattle.coverage.proofs.CoverLaws.{whole}
use Rattle.coverage.proofs.whole.cover.Goals as goal

pub returns-then-map-lt-IMAGE_ROOM : goal.returns-then-map-lt-IMAGE_ROOM
returns-then-map-lt-IMAGE_ROOM c = search whole

pub slice_bounds-by_records-end : goal.slice_bounds-by_records-end
slice_bounds-by_records-end c = search whole

pub slice_bounds-by_records-end-2 : goal.slice_bounds-by_records-end-2
slice_bounds-by_records-end-2 c = search whole

pub slice_bounds-by_records-end-3 : goal.slice_bounds-by_records-end-3
slice_bounds-by_records-end-3 c = search whole

pub by_records-requires : goal.by_records-requires
by_records-requires c = search whole

pub shape_of-map : goal.shape_of-map
shape_of-map c = search whole

pub returns : goal.returns
returns c = search whole
