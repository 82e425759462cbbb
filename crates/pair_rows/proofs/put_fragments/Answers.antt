use Rattle.pair_rows.proofs.Laws.{columning}
use Rattle.pair_rows.proofs.put_fragments.Goals as goal

pub loop-i-init : goal.loop-i-init
loop-i-init c = search columning

pub overflow_mul-i : goal.overflow_mul-i
overflow_mul-i c = search columning

pub overflow_add-at : goal.overflow_add-at
overflow_add-at c = search columning

pub put_fragment-requires : goal.put_fragment-requires
put_fragment-requires c = search columning

pub loop-i-preserved : goal.loop-i-preserved
loop-i-preserved c = search columning

pub shape_of-out : goal.shape_of-out
shape_of-out c = search columning

pub returns : goal.returns
returns c = search columning
