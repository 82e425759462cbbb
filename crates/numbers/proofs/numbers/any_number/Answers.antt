use Rattle.numbers.proofs.Laws.Numbers.{digiting}
use Rattle.numbers.proofs.numbers.any_number.Goals as goal

pub returns-then-t-at : goal.returns-then-t-at
returns-then-t-at c = search digiting

pub loop-i-init : goal.loop-i-init
loop-i-init c = search digiting

pub bounds-t-i : goal.bounds-t-i
bounds-t-i c = search digiting

pub worth_of-d-requires : goal.worth_of-d-requires
worth_of-d-requires c = search digiting

pub number_from-requires : goal.number_from-requires
number_from-requires c = search digiting

pub returns-then-base-d : goal.returns-then-base-d
returns-then-base-d c = search digiting

pub with_digit-v-requires : goal.with_digit-v-requires
with_digit-v-requires c = search digiting

pub loop-i-preserved : goal.loop-i-preserved
loop-i-preserved c = search digiting

pub number_from-requires-2 : goal.number_from-requires-2
number_from-requires-2 c = search digiting

pub returns : goal.returns
returns c = search digiting
