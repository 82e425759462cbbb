use Rattle.layout.proofs.Laws.{outs}
use Rattle.layout.proofs.copy_fixups.Goals as goal

pub at_most-n-requires : goal.at_most-n-requires
at_most-n-requires c = search outs

pub overflow_cast-n : goal.overflow_cast-n
overflow_cast-n c = search outs

pub by_area-requires : goal.by_area-requires
by_area-requires c = search outs

pub shape_of-dst : goal.shape_of-dst
shape_of-dst c = search outs

pub returns : goal.returns
returns c = search outs
