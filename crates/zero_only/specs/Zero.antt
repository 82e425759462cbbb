-- What was read at a place, if it is 0.
-- Assumes nothing.
use Rattle.std.specs.Prelude.{ℕ, eqb, Result, Ok, Err}
use Rattle.format.specs.Lists.{pick}
use Rattle.format.specs.Got.{Got, is, isnt, then}
use Rattle.numbers.specs.declared.Read.{Read}

abbrev pub zero_only : Got ℕ → ℕ → Got ℕ
zero_only m at = then m (λ v next. pick (eqb v 0) (is v next) (isnt 4 at))

-- the same of an answer whose halts are of any type, with the halt for another number
abbrev pub zero_or : {H : Type 0} → Result (Read ℕ) H → H → Result (Read ℕ) H
zero_or (Ok r) other = pick (eqb r.value 0) (Ok r) (Err other)
zero_or (Err h) other = Err h
