use Rattle.book_plan.proofs.Laws.{plans}
use Rattle.book_plan.proofs.plan.plan_book.Goals as goal

pub returns-in-Some : goal.returns-in-Some
returns-in-Some c = search plans

pub returns-then-inside-n : goal.returns-then-inside-n
returns-then-inside-n c = search plans

pub returns : goal.returns
returns c = search plans
