-- `hexadecimal::six` gives the last six digits: each is what `digit` ensures. Assumes nothing.
use mathlib.Core.Path.{refl}
use borrow.Author.Rules.{rules}
use Rattle.hexadecimal.proofs.six.Goals as goal

pub digit-requires : goal.digit-requires
digit-requires c = search rules

pub digit-requires-2 : goal.digit-requires-2
digit-requires-2 c = search rules

pub digit-requires-3 : goal.digit-requires-3
digit-requires-3 c = search rules

pub digit-requires-4 : goal.digit-requires-4
digit-requires-4 c = search rules

pub digit-requires-5 : goal.digit-requires-5
digit-requires-5 c = search rules

pub digit-requires-6 : goal.digit-requires-6
digit-requires-6 c = search rules

pub returns : goal.returns
returns c = record { value = cc; value_2 = refl }
