use Rattle.pair_rows.proofs.Laws.{rowing}
use Rattle.pair_rows.proofs.put_pair.Goals as goal

pub overflow_mul-i : goal.overflow_mul-i
overflow_mul-i c = search rowing

pub overflow_cast-l : goal.overflow_cast-l
overflow_cast-l c = search rowing

pub put3-requires : goal.put3-requires
put3-requires c = search rowing

pub overflow_add-i : goal.overflow_add-i
overflow_add-i c = search rowing

pub overflow_cast-n : goal.overflow_cast-n
overflow_cast-n c = search rowing

pub overflow_cast-l-2 : goal.overflow_cast-l-2
overflow_cast-l-2 c = search rowing

pub overflow_cast-n-2 : goal.overflow_cast-n-2
overflow_cast-n-2 c = search rowing

pub overflow_cast-l-3 : goal.overflow_cast-l-3
overflow_cast-l-3 c = search rowing

pub put4-requires : goal.put4-requires
put4-requires c = search rowing

pub shape_of-out : goal.shape_of-out
shape_of-out c = search rowing

pub returns : goal.returns
returns c = search rowing
