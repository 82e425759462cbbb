-- What the fixup rows of a pair answer, and every lent number.
-- Assumes nothing.
use Rattle.std.specs.Prelude.{ℕ, ◌*◌, ◌≤◌, ◌≡◌, Bool, true, false, List, drop, Result, Ok, Err}
use Rattle.std.proofs.Math.Option.{Option, none, some}
use Rattle.format.specs.Lists.{pick}
use Rattle.format.specs.Outcome.{Outcome, fine, refused}
use Rattle.format.specs.Fixups.{Fixup}
use Rattle.laws.specs.Rows.{fixups_in}
use Rattle.checks.specs.declared.check.Fault.{Fault}
use Rattle.checks.specs.declared.check.Fault.TheVariants as fault

-- the walk's answer, as the pair's
abbrev pub rowed_by : Result ℕ ℕ → Result ℕ Fault
rowed_by (Err n) = Err (fault.Refused n)
rowed_by (Ok k) = Ok k

-- what an answer says, with the rows as they are then
abbrev pub told_rows : (place : ℕ) → Result ℕ Fault → List ℕ → Option (Outcome (List Fixup))
told_rows place (Err fault.Misfit) rows = none
told_rows place (Err (fault.Refused n)) rows = some (refused n place)
told_rows place (Ok k) rows = some (fine (fixups_in rows k))

-- how many rows are in use then, as far as it is told
abbrev pub used_then : Result ℕ Fault → ℕ
used_then (Err e) = 0
used_then (Ok k) = k

-- whether an answer has written
abbrev pub writes : Result ℕ Fault → Bool
writes (Err e) = false
writes (Ok k) = true

-- where the numbers fit, what the definition says; else a misfit; no row behind the used ones is touched, and none at all unless rows are made
pub record PairRows (fit : Bool) (o : ℕ → Outcome (List Fixup)) (rows : List ℕ) (r : Result ℕ Fault) (rows' : List ℕ) : Type 0 where
  pub says : (place : ℕ) → told_rows place r rows' ≡ pick fit (some (o place)) none
  pub few : used_then r ≤ 1024
  pub rest : drop (9 * used_then r) rows' ≡ drop (9 * used_then r) rows
  pub same : writes r ≡ false → rows' ≡ rows
