use Rattle.number_bytes.proofs.Laws.{putting}
use Rattle.number_bytes.proofs.put3.Goals as goal

pub put2-requires : goal.put2-requires
put2-requires c = search putting

pub overflow_add-at : goal.overflow_add-at
overflow_add-at c = search putting

pub put-requires : goal.put-requires
put-requires c = search putting

pub shape_of-out : goal.shape_of-out
shape_of-out c = search putting

pub returns : goal.returns
returns c = search putting
