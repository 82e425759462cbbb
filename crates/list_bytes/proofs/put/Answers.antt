use Rattle.list_bytes.proofs.Laws.{putting}
use Rattle.list_bytes.proofs.put.Goals as goal

pub bounds-out-i : goal.bounds-out-i
bounds-out-i c = search putting

pub shape_of-out : goal.shape_of-out
shape_of-out c = search putting

pub returns-then-i-out : goal.returns-then-i-out
returns-then-i-out c = search putting

pub returns-else-i-out : goal.returns-else-i-out
returns-else-i-out c c' = search putting
