use Rattle.list_bytes.proofs.Laws.{ending}
use Rattle.list_bytes.proofs.last_byte.Goals as goal

pub returns-then-radix-ne16 : goal.returns-then-radix-ne16
returns-then-radix-ne16 c = search ending

pub returns-then-t-p : goal.returns-then-t-p
returns-then-t-p c = search ending

pub overflow_sub-t : goal.overflow_sub-t
overflow_sub-t c = search ending

pub returns-then-t-p-ne3 : goal.returns-then-t-p-ne3
returns-then-t-p-ne3 c = search ending

pub bounds-t-p : goal.bounds-t-p
bounds-t-p c = search ending

pub returns-then-t-p-ne32 : goal.returns-then-t-p-ne32
returns-then-t-p-ne32 c = search ending

pub overflow_add-p : goal.overflow_add-p
overflow_add-p c = search ending

pub bounds-t-p-2 : goal.bounds-t-p-2
bounds-t-p-2 c = search ending

pub overflow_add-p-2 : goal.overflow_add-p-2
overflow_add-p-2 c = search ending

pub bounds-t-p-3 : goal.bounds-t-p-3
bounds-t-p-3 c = search ending

pub two_capitals-requires : goal.two_capitals-requires
two_capitals-requires c = search ending

pub returns : goal.returns
returns c = search ending
