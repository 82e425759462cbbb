-- `hexadecimal::escape` gives the byte in two digits: each is what `digit` ensures. Assumes nothing.
use mathlib.Core.Path.{refl}
use borrow.Author.Rules.{rules}
use Rattle.hexadecimal.proofs.escape.Goals as goal

pub digit-requires : goal.digit-requires
digit-requires c = search rules

pub digit-requires-2 : goal.digit-requires-2
digit-requires-2 c = search rules

pub returns : goal.returns
returns c = record { value = cc; value_2 = refl }
