use Rattle.digits.proofs.Laws.{worths}
use Rattle.format.specs.Bytes.{worth}
use Rattle.digits.proofs.worth_of.Goals as goal

pub returns-then-x-lt48 : goal.returns-then-x-lt48
unfolding worth
returns-then-x-lt48 c = search worths

pub returns-then-x-le57 : goal.returns-then-x-le57
unfolding worth
returns-then-x-le57 c = search worths

pub returns-then-x-lt65 : goal.returns-then-x-lt65
unfolding worth
returns-then-x-lt65 c = search worths

pub overflow_sub-result-then-x-le70 : goal.overflow_sub-result-then-x-le70
overflow_sub-result-then-x-le70 c = search worths

pub returns-then-x-le70 : goal.returns-then-x-le70
unfolding worth
returns-then-x-le70 c = search worths

pub returns-then-x-lt97 : goal.returns-then-x-lt97
unfolding worth
returns-then-x-lt97 c = search worths

pub overflow_sub-result-then-x-le102 : goal.overflow_sub-result-then-x-le102
overflow_sub-result-then-x-le102 c = search worths

pub returns-then-x-le102 : goal.returns-then-x-le102
unfolding worth
returns-then-x-le102 c = search worths

pub returns : goal.returns
unfolding worth
returns c = search worths
