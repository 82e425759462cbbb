use Rattle.pairs_out.proofs.Laws.{pair}
use Rattle.pairs_out.proofs.pairs.put_pair.Goals as goal

pub pair_cell-address-requires : goal.pair_cell-address-requires
pair_cell-address-requires c = search pair

pub pair_bytes-requires : goal.pair_bytes-requires
pair_bytes-requires c = search pair

pub put_content-p-requires : goal.put_content-p-requires
put_content-p-requires c = search pair

pub pair_cell-area-requires : goal.pair_cell-area-requires
pair_cell-area-requires c = search pair

pub pair_cell-first-requires : goal.pair_cell-first-requires
pair_cell-first-requires c = search pair

pub pair_cell-n-requires : goal.pair_cell-n-requires
pair_cell-n-requires c = search pair

pub put_relocation-requires : goal.put_relocation-requires
put_relocation-requires c = search pair

pub shape_of-out : goal.shape_of-out
shape_of-out c = search pair

pub returns : goal.returns
returns c = search pair
