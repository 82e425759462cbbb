use Rattle.relocation_out.proofs.Laws.{looping}
use Rattle.relocation_out.proofs.put_parts.Goals as goal

pub loop-i-init : goal.loop-i-init
loop-i-init c = search looping

pub overflow_add-f : goal.overflow_add-f
overflow_add-f c = search looping

pub put_row-p-requires : goal.put_row-p-requires
put_row-p-requires c = search looping

pub loop-i-preserved : goal.loop-i-preserved
loop-i-preserved c = search looping

pub shape_of-out : goal.shape_of-out
shape_of-out c = search looping

pub returns : goal.returns
returns c = search looping
