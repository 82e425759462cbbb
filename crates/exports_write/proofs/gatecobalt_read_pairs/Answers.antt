use Rattle.exports_write.proofs.Writing.{reads}
use Rattle.exports_write.proofs.gatecobalt_read_pairs.Goals as goal

pub read_pairs-requires : goal.read_pairs-requires
read_pairs-requires c = search reads

pub pairs_numbers-requires : goal.pairs_numbers-requires
pairs_numbers-requires c = search reads

pub shape_of-pairs : goal.shape_of-pairs
shape_of-pairs c = search reads

pub shape_of-content : goal.shape_of-content
shape_of-content c = search reads

pub shape_of-fragments : goal.shape_of-fragments
shape_of-fragments c = search reads

pub returns : goal.returns
returns c = search reads
