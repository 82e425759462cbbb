-- The answer to a comparison, as the definition has it.
-- Assumes nothing.
use Rattle.std.specs.Prelude.{ℕ, ◌≡◌, List, Result, Ok, Err}
use Rattle.difference.specs.Changes.{newer, older}
use Rattle.difference.specs.Told as the
use Rattle.difference.specs.Told.{Listed}
use Rattle.change_answer.specs.declared.Refused.{Refused}
use Rattle.change_answer.specs.declared.Whose.{Whose}
use Rattle.change_answer.specs.declared.Whose.TheVariants.{Both, Newer, Older}

-- how many rows, or a refusal
abbrev pub Told : Type 0
Told = Result ℕ Refused

-- a refusal as the definition has it
abbrev pub refused_of : Whose → (number place : ℕ) → the.Told
refused_of Both n p = the.refusal n p
refused_of Older n p = the.refused_in older n p
refused_of Newer n p = the.refused_in newer n p

-- the definition's answer for each case
abbrev pub told_of : Told → the.Told
told_of (Ok n) = the.told n
told_of (Err r) = refused_of r.whose r.number r.place

-- the number of a side
abbrev pub side_of : Whose → ℕ
side_of Both = 0
side_of Older = 1
side_of Newer = 2

-- an answer and a list afterwards
pub record Lists (l : Listed) (r : Told) (after : List ℕ) : Type 0 where
  pub answer : told_of r ≡ l.answer
  pub list : after ≡ l.list
