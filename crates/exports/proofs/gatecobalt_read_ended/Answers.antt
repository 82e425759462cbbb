use Rattle.exports.proofs.Laws.{numbers}
use Rattle.exports.proofs.gatecobalt_read_ended.Goals as goal

pub read_ended-requires : goal.read_ended-requires
read_ended-requires c = search numbers

pub ended_numbers-requires : goal.ended_numbers-requires
ended_numbers-requires c = search numbers

pub shape_of-areas : goal.shape_of-areas
shape_of-areas c = search numbers

pub shape_of-symbols : goal.shape_of-symbols
shape_of-symbols c = search numbers

pub shape_of-values : goal.shape_of-values
shape_of-values c = search numbers

pub shape_of-masks : goal.shape_of-masks
shape_of-masks c = search numbers

pub shape_of-fixups : goal.shape_of-fixups
shape_of-fixups c = search numbers

pub returns : goal.returns
returns c = search numbers
