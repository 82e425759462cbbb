use Rattle.entry_parts.proofs.Laws.Usual.{words}
use Rattle.entry_parts.proofs.usual.usual_flags.Goals as goal

pub returns-then-t-lt8 : goal.returns-then-t-lt8
returns-then-t-lt8 c = search words

pub overflow_sub-t : goal.overflow_sub-t
overflow_sub-t c = search words

pub returns-then-t-at : goal.returns-then-t-at
returns-then-t-at c = search words

pub bounds-t-at : goal.bounds-t-at
bounds-t-at c = search words

pub returns-then-t-at-ne32 : goal.returns-then-t-at-ne32
returns-then-t-at-ne32 c = search words

pub overflow_add-at : goal.overflow_add-at
overflow_add-at c = search words

pub bounds-t-at-2 : goal.bounds-t-at-2
bounds-t-at-2 c = search words

pub returns-then-t-at-ne115 : goal.returns-then-t-at-ne115
returns-then-t-at-ne115 c = search words

pub overflow_add-at-2 : goal.overflow_add-at-2
overflow_add-at-2 c = search words

pub bounds-t-at-3 : goal.bounds-t-at-3
bounds-t-at-3 c = search words

pub returns-then-t-at-ne32-2 : goal.returns-then-t-at-ne32-2
returns-then-t-at-ne32-2 c = search words

pub overflow_add-at-3 : goal.overflow_add-at-3
overflow_add-at-3 c = search words

pub bounds-t-at-4 : goal.bounds-t-at-4
bounds-t-at-4 c = search words

pub returns-then-t-at-le32 : goal.returns-then-t-at-le32
returns-then-t-at-le32 c = search words

pub four_of-requires : goal.four_of-requires
four_of-requires c = search words

pub returns : goal.returns
returns c = search words
