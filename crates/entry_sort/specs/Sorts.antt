-- The sort of a line by its letter, and the code's answer about Ref or Def as the definition's one.
-- Assumes nothing.
use Rattle.std.specs.Prelude.{ℕ, Bool, eqb, Result}
use Rattle.format.specs.Lists.{pick}
use Rattle.format.specs.Got.{Got}
use Rattle.numbers.specs.Told.{told_as}
use Rattle.numbers.specs.declared.Halt.{Halt}
use Rattle.numbers.specs.declared.Read.{Read}
use Rattle.entry_sort.specs.declared.Letter.{Letter}
use Rattle.entry_sort.specs.declared.Letter.TheVariants.{Area, Symbol, Other}

unfoldable pub letter_of : ℕ → Letter
letter_of b = pick (eqb b 65) Area (pick (eqb b 83) Symbol Other)

-- whether it is Ref, or the halt with its reason
abbrev pub told_ref : Result (Read Bool) Halt → Got Bool
told_ref r = told_as (λ x. x) r
