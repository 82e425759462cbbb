use Rattle.alike.proofs.Fixups.{numbers}
use Rattle.alike.proofs.fixup.same_numbers.Goals as goal

pub returns-then-x-y : goal.returns-then-x-y
returns-then-x-y c = search numbers

pub returns-then-x-y-2 : goal.returns-then-x-y-2
returns-then-x-y-2 c = search numbers

pub returns-then-x-y-3 : goal.returns-then-x-y-3
returns-then-x-y-3 c = search numbers

pub returns-then-x-y-4 : goal.returns-then-x-y-4
returns-then-x-y-4 c = search numbers

pub returns-then-x-y-5 : goal.returns-then-x-y-5
returns-then-x-y-5 c = search numbers

pub returns-then-x-y-6 : goal.returns-then-x-y-6
returns-then-x-y-6 c = search numbers

pub returns : goal.returns
returns c = search numbers
