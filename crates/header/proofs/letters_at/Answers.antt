use Rattle.header.proofs.Laws.{heading, length-told}
use Rattle.header.proofs.letters_at.Goals as goal

pub returns-then-t-lt3 : goal.returns-then-t-lt3
returns-then-t-lt3 c = search heading

pub overflow_sub-t : goal.overflow_sub-t
overflow_sub-t c = search heading

pub returns-then-t-p : goal.returns-then-t-p
returns-then-t-p c = search heading

pub bounds-t-p : goal.bounds-t-p
bounds-t-p c = search heading

pub radix_of-radix-requires : goal.radix_of-radix-requires
radix_of-radix-requires c = search heading

pub returns-then-radix-eq0 : goal.returns-then-radix-eq0
returns-then-radix-eq0 c = search heading

pub overflow_add-b : goal.overflow_add-b
overflow_add-b c = search heading

pub bounds-t-p-2 : goal.bounds-t-p-2
bounds-t-p-2 c = search heading

pub is_order-requires : goal.is_order-requires
is_order-requires c = search heading

pub returns-then-not-is_order : goal.returns-then-not-is_order
returns-then-not-is_order c = search heading

pub overflow_add-c : goal.overflow_add-c
overflow_add-c c = search heading

pub bounds-t-p-3 : goal.bounds-t-p-3
bounds-t-p-3 c = search heading

pub is_length-requires : goal.is_length-requires
is_length-requires c = search heading

pub returns-then-not-is_length : goal.returns-then-not-is_length
returns-then-not-is_length c = search heading

pub width_of-requires : goal.width_of-requires
width_of-requires c = length-told _ c.is_length.ensures (search heading)

pub overflow_add-p : goal.overflow_add-p
overflow_add-p c = search heading

pub past_kind-requires : goal.past_kind-requires
past_kind-requires c = search heading

pub returns : goal.returns
returns c = search heading
