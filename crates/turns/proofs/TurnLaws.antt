-- The laws of how group two goes on: one for each answer.
-- Assumes nothing.
use Prim.Native.Nat.{ℕ}
use mathlib.Core.Path.{◌≡◌}
use mathlib.Core.Bool.{true, false}
use borrow.Author.Rules.{rules}
use Rattle.sites.specs.declared.Line.{Line}
use Rattle.turns.specs.Turns.{ending_of, after_of, turn_of, two_of}
use Rattle.turns.specs.declared.Standing.TheVariants.{Made, Barred}
use Rattle.turns.specs.declared.Progress.{Progress}
use Rattle.turns.specs.declared.Paired.{Paired}
use Rattle.turns.specs.declared.Paired.TheVariants.{All, Rejected}
use Rattle.turns.specs.declared.Turn.{Turn}
use Rattle.turns.specs.declared.Turn.TheVariants.{Goes, Done}
use Rattle.turns.specs.declared.Plan.{Plan}
use Rattle.turns.specs.declared.Plan.TheVariants.{Leave, Place}

module _ (g : Progress) where
  pub ends-made : {k : ℕ} → g.standing ≡ Made k → All g.lines g.stop k ≡ ending_of g
  ends-made e = rw e

  pub ends-kept : {n p : ℕ} → g.standing ≡ Barred n p → Rejected n p ≡ ending_of g
  ends-kept e = rw e

  pub after_on : g.on ≡ true → Goes g ≡ after_of g
  after_on e = rw e

  pub after-off : g.on ≡ false → {two : Paired} → two ≡ ending_of g → Done two ≡ after_of g
  after-off e i = rw (e, i)

pub turn-of-leave : {p : Plan} {u : Turn} → p ≡ Leave u → u ≡ turn_of p
turn-of-leave e = rw e

pub turn-of-place : {p : Plan} {l : Line} {g : Progress} → p ≡ Place l g → {u : Turn} → u ≡ after_of g → u ≡ turn_of p
turn-of-place e i = rw (e, i)

pub two-of-done : {u : Turn} {two : Paired} → u ≡ Done two → two ≡ two_of u
two-of-done e = rw e

pub two-of-goes : {u : Turn} {g : Progress} → u ≡ Goes g → {two : Paired} → two ≡ ending_of g → two ≡ two_of u
two-of-goes e i = rw (e, i)

pub ruleset turning = (rules, ends-made, ends-kept, after_on, after-off, turn-of-leave, turn-of-place, two-of-done, two-of-goes)
