-- `hexadecimal::digit` gives the digit's code: below 10 by the first arm, else by the second. Assumes nothing.
use borrow.Author.Rules.{rules}
use borrow.Author.Tests.{le-ltb, lt-ltb}
use Rattle.hexadecimal.proofs.digit.Goals as goal

pub nonzero_div-d : goal.nonzero_div-d
nonzero_div-d c = search rules

pub overflow_cast-result : goal.overflow_cast-result
overflow_cast-result c = search rules

pub overflow_add-result : goal.overflow_add-result
overflow_add-result c = search rules

pub overflow_cast-result-else-d-lt10 : goal.overflow_cast-result-else-d-lt10
overflow_cast-result-else-d-lt10 c = search rules

pub overflow_add-result-else-d-lt10 : goal.overflow_add-result-else-d-lt10
overflow_add-result-else-d-lt10 c = search rules

pub returns-then-d-lt10 : goal.returns-then-d-lt10
returns-then-d-lt10 c = simp (lt-ltb _ _ c.if-d-lt10.true)

pub returns-else-d-lt10 : goal.returns-else-d-lt10
returns-else-d-lt10 c = simp (le-ltb _ _ c.if-d-lt10.false)
