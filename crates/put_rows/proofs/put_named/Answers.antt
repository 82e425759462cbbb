use Rattle.put_rows.proofs.RowLaws.{naming}
use Rattle.put_rows.proofs.put_named.Goals as goal

pub short-requires : goal.short-requires
short-requires c = search naming

pub short-requires-2 : goal.short-requires-2
short-requires-2 c = search naming

pub overflow_add-short : goal.overflow_add-short
overflow_add-short c = search naming

pub short-requires-3 : goal.short-requires-3
short-requires-3 c = search naming

pub put3-requires : goal.put3-requires
put3-requires c = search naming

pub shape_of-out : goal.shape_of-out
shape_of-out c = search naming

pub returns : goal.returns
returns c = search naming
