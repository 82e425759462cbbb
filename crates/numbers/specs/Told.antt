-- The code's answers as the definition's: the value and the place behind it, or the reason and the place of a halt.
-- Assumes nothing.
use Rattle.std.specs.Prelude.{ℕ, Result, Ok, Err}
use Rattle.format.specs.Got.{Got, is, isnt}
use Rattle.numbers.specs.declared.Halt.{Halt}
use Rattle.numbers.specs.declared.Read.{Read}
use Rattle.numbers.specs.declared.Reason.{Reason}
use Rattle.numbers.specs.declared.Reason.TheVariants.{NoDigit, OverWord, OverByte, Other}

-- a reason's number: 1 no digit, 2 over 32 bits, 3 over 255, 4 anything else
abbrev pub code : Reason → ℕ
code NoDigit = 1
code OverWord = 2
code OverByte = 3
code Other = 4

-- an answer whose value is seen as f sees it
abbrev pub told_as : {A B : Type 0} → (A → B) → Result (Read A) Halt → Got B
told_as f (Ok r) = is (f r.value) r.next
told_as f (Err h) = isnt (code h.reason) h.at

-- a number, or the halt with its reason
abbrev pub told : Result (Read ℕ) Halt → Got ℕ
told r = told_as (λ x. x) r
