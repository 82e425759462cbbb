use Rattle.pair_rows.proofs.Laws.{fragmenting}
use Rattle.pair_rows.proofs.put_fragment.Goals as goal

pub at-m-requires : goal.at-m-requires
at-m-requires c = search fragmenting

pub at-e-requires : goal.at-e-requires
at-e-requires c = search fragmenting

pub at-x-requires : goal.at-x-requires
at-x-requires c = search fragmenting

pub put3-requires : goal.put3-requires
put3-requires c = search fragmenting

pub shape_of-out : goal.shape_of-out
shape_of-out c = search fragmenting

pub returns : goal.returns
returns c = search fragmenting
