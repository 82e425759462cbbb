use Rattle.quick_numbers.proofs.Laws.{zeros}
use Rattle.quick_numbers.proofs.lone_zero.Goals as goal

pub returns-then-radix-ne16 : goal.returns-then-radix-ne16
returns-then-radix-ne16 c = search zeros

pub returns-then-t-at : goal.returns-then-t-at
returns-then-t-at c = search zeros

pub bounds-t-at : goal.bounds-t-at
bounds-t-at c = search zeros

pub returns-then-t-at-ne48 : goal.returns-then-t-at-ne48
returns-then-t-at-ne48 c = search zeros

pub overflow_add-at : goal.overflow_add-at
overflow_add-at c = search zeros

pub byte_at-requires : goal.byte_at-requires
byte_at-requires c = search zeros

pub returns : goal.returns
returns c = search zeros
