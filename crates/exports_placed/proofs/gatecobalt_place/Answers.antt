use Rattle.exports_placed.proofs.Placing.{numbers}
use Rattle.exports_placed.proofs.gatecobalt_place.Goals as goal

pub place_code-requires : goal.place_code-requires
place_code-requires c = search numbers

pub place_numbers-requires : goal.place_numbers-requires
place_numbers-requires c = search numbers

pub shape_of-out : goal.shape_of-out
shape_of-out c = search numbers

pub returns : goal.returns
returns c = search numbers
