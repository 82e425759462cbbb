use Rattle.entry_parts.proofs.Laws.Usual.{fours}
use Rattle.entry_parts.proofs.usual.four_of.Goals as goal

pub overflow_add-at : goal.overflow_add-at
overflow_add-at c = search fours

pub bounds-t-at : goal.bounds-t-at
bounds-t-at c = search fours

pub same_so_far-e-requires : goal.same_so_far-e-requires
same_so_far-e-requires c = search fours

pub overflow_add-at-2 : goal.overflow_add-at-2
overflow_add-at-2 c = search fours

pub bounds-t-at-2 : goal.bounds-t-at-2
bounds-t-at-2 c = search fours

pub same_so_far-f-requires : goal.same_so_far-f-requires
same_so_far-f-requires c = search fours

pub overflow_add-at-3 : goal.overflow_add-at-3
overflow_add-at-3 c = search fours

pub bounds-t-at-3 : goal.bounds-t-at-3
bounds-t-at-3 c = search fours

pub same_so_far-g-requires : goal.same_so_far-g-requires
same_so_far-g-requires c = search fours

pub overflow_add-at-4 : goal.overflow_add-at-4
overflow_add-at-4 c = search fours

pub bounds-t-at-4 : goal.bounds-t-at-4
bounds-t-at-4 c = search fours

pub same_so_far-requires : goal.same_so_far-requires
same_so_far-requires c = search fours

pub returns : goal.returns
returns c = search fours
