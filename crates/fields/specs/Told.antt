-- The code's answers about what lines share, as the definition's ones.
-- Assumes nothing.
use Rattle.std.specs.Prelude.{ℕ, Bool, false, ◌||◌, List, [], ◌∷◌, eqb, Result, Ok, Err}
use Rattle.format.specs.Got.{Got, is, isnt}
use Rattle.numbers.specs.Told.{code}
use Rattle.numbers.specs.declared.Halt.{Halt}

-- the place behind what has no value
abbrev pub went : Result ℕ Halt → Got Unit
went (Ok n) = is tt n
went (Err h) = isnt (code h.reason) h.at

-- one of the letters
unfoldable pub one_of : List ℕ → ℕ → Bool
one_of [] b = false
one_of (c ∷ cs) b = let r = one_of cs b in eqb b c || r
