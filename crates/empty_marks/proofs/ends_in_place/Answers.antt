use Rattle.empty_marks.proofs.Laws.{ending}
use Rattle.empty_marks.proofs.ends_in_place.Goals as goal

pub returns-then-t-p : goal.returns-then-t-p
returns-then-t-p c = search ending

pub overflow_sub-t : goal.overflow_sub-t
overflow_sub-t c = search ending

pub returns-then-t-p-lt25 : goal.returns-then-t-p-lt25
returns-then-t-p-lt25 c = search ending

pub overflow_add-p : goal.overflow_add-p
overflow_add-p c = search ending

pub bounds-t-p : goal.bounds-t-p
bounds-t-p c = search ending

pub returns-then-t-p-ne10 : goal.returns-then-t-p-ne10
returns-then-t-p-ne10 c = search ending

pub overflow_add-result : goal.overflow_add-result
overflow_add-result c = search ending

pub bounds-t-p-2 : goal.bounds-t-p-2
bounds-t-p-2 c = search ending

pub returns : goal.returns
returns c = search ending
