use Rattle.laid_rows.proofs.Laws.Fragments.{looping}
use Rattle.laid_rows.proofs.fragments.lay_fragments.Goals as goal

pub loop-i-init : goal.loop-i-init
loop-i-init c = search looping

pub overflow_add-first : goal.overflow_add-first
overflow_add-first c = search looping

pub lay_fragment-requires : goal.lay_fragment-requires
lay_fragment-requires c = search looping

pub loop-i-preserved : goal.loop-i-preserved
loop-i-preserved c = search looping

pub shape_of-part : goal.shape_of-part
shape_of-part c = search looping

pub returns : goal.returns
returns c = search looping
