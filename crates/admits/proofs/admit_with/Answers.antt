use Rattle.admits.proofs.Laws.{admitting}
use Rattle.admits.proofs.admit_with.Goals as goal

pub read_ended-requires : goal.read_ended-requires
read_ended-requires c = search admitting

pub answered-requires : goal.answered-requires
answered-requires c = search admitting

pub shape_of-areas : goal.shape_of-areas
shape_of-areas c = search admitting

pub shape_of-symbols : goal.shape_of-symbols
shape_of-symbols c = search admitting

pub shape_of-values : goal.shape_of-values
shape_of-values c = search admitting

pub shape_of-masks : goal.shape_of-masks
shape_of-masks c = search admitting

pub shape_of-fixups : goal.shape_of-fixups
shape_of-fixups c = search admitting

pub returns : goal.returns
returns c = search admitting
