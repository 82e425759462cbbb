use Rattle.reading.proofs.Meeting.{meeting}
use Rattle.reading.proofs.read_any.Goals as goal

pub read-requires : goal.read-requires
read-requires c = search meeting

pub shape_of-areas : goal.shape_of-areas
shape_of-areas c = search meeting

pub shape_of-symbols : goal.shape_of-symbols
shape_of-symbols c = search meeting

pub shape_of-values : goal.shape_of-values
shape_of-values c = search meeting

pub shape_of-masks : goal.shape_of-masks
shape_of-masks c = search meeting

pub shape_of-fixups : goal.shape_of-fixups
shape_of-fixups c = search meeting

pub returns : goal.returns
returns c = search meeting
