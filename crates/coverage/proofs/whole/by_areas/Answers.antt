use Rattle.coverage.proofs.CoverLaws.{by-areas}
use Rattle.coverage.proofs.whole.by_areas.Goals as goal

pub sizes_of-sizes-requires : goal.sizes_of-sizes-requires
sizes_of-sizes-requires c = search by-areas

pub returns-then-positions-gt-IMAGE_ROOM : goal.returns-then-positions-gt-IMAGE_ROOM
returns-then-positions-gt-IMAGE_ROOM c = search by-areas

pub cover_rows-requires : goal.cover_rows-requires
cover_rows-requires c = search by-areas

pub shape_of-map : goal.shape_of-map
shape_of-map c = search by-areas

pub returns : goal.returns
returns c = search by-areas
