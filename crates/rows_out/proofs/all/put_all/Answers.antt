use Rattle.rows_out.proofs.Laws.{alls}
use Rattle.rows_out.proofs.all.put_all.Goals as goal

pub put_head-p-requires : goal.put_head-p-requires
put_head-p-requires c = search alls

pub put_entries-q-requires : goal.put_entries-q-requires
put_entries-q-requires c = search alls

pub put_pairs-requires : goal.put_pairs-requires
put_pairs-requires c = search alls

pub shape_of-out : goal.shape_of-out
shape_of-out c = search alls

pub returns : goal.returns
returns c = search alls
