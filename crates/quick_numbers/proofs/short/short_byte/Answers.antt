use Rattle.quick_numbers.proofs.Laws.{shorts}
use Rattle.quick_numbers.proofs.short.short_byte.Goals as goal

pub returns-then-radix-ne16 : goal.returns-then-radix-ne16
returns-then-radix-ne16 c = search shorts

pub returns-then-t-at : goal.returns-then-t-at
returns-then-t-at c = search shorts

pub overflow_sub-t : goal.overflow_sub-t
overflow_sub-t c = search shorts

pub returns-then-t-at-lt2 : goal.returns-then-t-at-lt2
returns-then-t-at-lt2 c = search shorts

pub two_digits-requires : goal.two_digits-requires
two_digits-requires c = search shorts

pub returns : goal.returns
returns c = search shorts
