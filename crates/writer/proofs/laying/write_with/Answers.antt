use Rattle.writer.proofs.Laws.{writing}
use Rattle.writer.proofs.laying.write_with.Goals as goal

pub put_all-n-requires : goal.put_all-n-requires
put_all-n-requires c = search writing

pub lay-requires : goal.lay-requires
lay-requires c = search writing

pub shape_of-own : goal.shape_of-own
shape_of-own c = search writing

pub shape_of-out : goal.shape_of-out
shape_of-out c = search writing

pub returns : goal.returns
returns c = search writing
