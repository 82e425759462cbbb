use Rattle.quick_numbers.proofs.Laws.{twos}
use Rattle.quick_numbers.proofs.short.two_digits.Goals as goal

pub bounds-t-at : goal.bounds-t-at
bounds-t-at c = search twos

pub overflow_add-at : goal.overflow_add-at
overflow_add-at c = search twos

pub bounds-t-at-2 : goal.bounds-t-at-2
bounds-t-at-2 c = search twos

pub two_capitals-v-requires : goal.two_capitals-v-requires
two_capitals-v-requires c = search twos

pub overflow_add-at-2 : goal.overflow_add-at-2
overflow_add-at-2 c = search twos

pub byte_at-requires : goal.byte_at-requires
byte_at-requires c = search twos

pub returns-then-byte_at-ge48 : goal.returns-then-byte_at-ge48
returns-then-byte_at-ge48 c = search twos

pub returns : goal.returns
returns c = search twos
