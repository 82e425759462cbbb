use Rattle.quick_numbers.proofs.Laws.{spaceds}
use Rattle.quick_numbers.proofs.short.spaced_byte.Goals as goal

pub returns-then-radix-ne16 : goal.returns-then-radix-ne16
returns-then-radix-ne16 c = search spaceds

pub returns-then-t-at : goal.returns-then-t-at
returns-then-t-at c = search spaceds

pub overflow_sub-t : goal.overflow_sub-t
overflow_sub-t c = search spaceds

pub returns-then-t-at-lt3 : goal.returns-then-t-at-lt3
returns-then-t-at-lt3 c = search spaceds

pub bounds-t-at : goal.bounds-t-at
bounds-t-at c = search spaceds

pub returns-then-t-at-ne32 : goal.returns-then-t-at-ne32
returns-then-t-at-ne32 c = search spaceds

pub overflow_add-at : goal.overflow_add-at
overflow_add-at c = search spaceds

pub two_digits-requires : goal.two_digits-requires
two_digits-requires c = search spaceds

pub returns : goal.returns
returns c = search spaceds
