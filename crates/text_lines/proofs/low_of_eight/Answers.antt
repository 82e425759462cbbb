use Rattle.text_lines.proofs.Laws.{eights}
use Rattle.text_lines.proofs.low_of_eight.Goals as goal

pub bounds-t-i : goal.bounds-t-i
bounds-t-i c = search eights

pub low-a-requires : goal.low-a-requires
low-a-requires c = search eights

pub overflow_add-i : goal.overflow_add-i
overflow_add-i c = search eights

pub bounds-t-i-2 : goal.bounds-t-i-2
bounds-t-i-2 c = search eights

pub low-b-requires : goal.low-b-requires
low-b-requires c = search eights

pub overflow_add-i-2 : goal.overflow_add-i-2
overflow_add-i-2 c = search eights

pub bounds-t-i-3 : goal.bounds-t-i-3
bounds-t-i-3 c = search eights

pub low-c-requires : goal.low-c-requires
low-c-requires c = search eights

pub overflow_add-i-3 : goal.overflow_add-i-3
overflow_add-i-3 c = search eights

pub bounds-t-i-4 : goal.bounds-t-i-4
bounds-t-i-4 c = search eights

pub low-d-requires : goal.low-d-requires
low-d-requires c = search eights

pub overflow_add-i-4 : goal.overflow_add-i-4
overflow_add-i-4 c = search eights

pub bounds-t-i-5 : goal.bounds-t-i-5
bounds-t-i-5 c = search eights

pub low-e-requires : goal.low-e-requires
low-e-requires c = search eights

pub overflow_add-i-5 : goal.overflow_add-i-5
overflow_add-i-5 c = search eights

pub bounds-t-i-6 : goal.bounds-t-i-6
bounds-t-i-6 c = search eights

pub low-f-requires : goal.low-f-requires
low-f-requires c = search eights

pub overflow_add-i-6 : goal.overflow_add-i-6
overflow_add-i-6 c = search eights

pub bounds-t-i-7 : goal.bounds-t-i-7
bounds-t-i-7 c = search eights

pub low-g-requires : goal.low-g-requires
low-g-requires c = search eights

pub overflow_add-i-7 : goal.overflow_add-i-7
overflow_add-i-7 c = search eights

pub bounds-t-i-8 : goal.bounds-t-i-8
bounds-t-i-8 c = search eights

pub low-requires : goal.low-requires
low-requires c = search eights

pub returns : goal.returns
returns c = search eights
