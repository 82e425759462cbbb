-- The laws of where group two begins.
-- Assumes nothing.
use Prim.Native.Nat.{ℕ, ◌<◌, ◌≤◌}
use mathlib.Core.Path.{◌≡◌}
use borrow.Author.Rules.{rules}
use borrow.Author.Tests.{lt-ltb, le-ltb}
use Rattle.tables.specs.declared.group.Found.{Found}
use Rattle.turns.specs.declared.Standing.TheVariants.{Made, Barred}
use Rattle.turns.specs.declared.Progress.{Progress}
use Rattle.group_start.specs.Start.{going_at, starting_of}

module _ (d : Found) (z : ℕ) {g : Progress} where
  pub start-nine : 65536 < z → g ≡ going_at d 0 d.more (Barred 9 0) → g ≡ starting_of d z
  start-nine h e = rw (e, lt-ltb 65536 z h)

  pub start_none : z ≤ 65536 → g ≡ going_at d z d.more (Made 0) → g ≡ starting_of d z
  start_none h e = rw (e, le-ltb 65536 z h)

pub ruleset beginning = (rules, start-nine, start_none)
