use Rattle.book_told.proofs.Laws.{plans}
use Rattle.book_told.proofs.plan.plan_lent.Goals as goal

pub wide-requires : goal.wide-requires
wide-requires c = search plans

pub overflow_mul-wide : goal.overflow_mul-wide
overflow_mul-wide c = search plans

pub returns-then-rows-wide : goal.returns-then-rows-wide
returns-then-rows-wide c = search plans

pub wide-requires-2 : goal.wide-requires-2
wide-requires-2 c = search plans

pub returns-then-numbers-wide : goal.returns-then-numbers-wide
returns-then-numbers-wide c = search plans

pub plan_book-requires : goal.plan_book-requires
plan_book-requires c = search plans

pub returns : goal.returns
returns c = search plans
