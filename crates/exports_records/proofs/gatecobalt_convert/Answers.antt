use Rattle.exports_records.proofs.Converting.{converts}
use Rattle.exports_records.proofs.gatecobalt_convert.Goals as goal

pub convert-requires : goal.convert-requires
convert-requires c = search converts

pub convert_numbers-requires : goal.convert_numbers-requires
convert_numbers-requires c = search converts

pub shape_of-out : goal.shape_of-out
shape_of-out c = search converts

pub returns : goal.returns
returns c = search converts
