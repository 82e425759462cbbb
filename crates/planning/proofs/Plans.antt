-- The laws of what is planned with a pair: one for each answer.
-- Assumes nothing.
use Prim.Native.Nat.{ℕ, suc, ◌+◌, ◌<◌, ◌≤◌}
use mathlib.Core.Path.{◌≡◌}
use mathlib.Core.Bool.{Bool}
use borrow.Author.Rules.{rules}
use borrow.Author.Tests.{lt-ltb, le-ltb}
use Rattle.header.specs.Told.{more_of}
use Rattle.header.specs.declared.Form as text
use Rattle.header.specs.declared.Width.{Width}
use Rattle.header.specs.declared.Width.TheVariants as wide
use Rattle.steps.specs.declared.pair.Body.{Body}
use Rattle.steps.specs.declared.pair.Body.TheVariants.{Skipped, Placed}
use Rattle.steps.specs.declared.pair.PairStep.{PairStep}
use Rattle.steps.specs.declared.pair.PairStep.TheVariants.{Ends, Takes}
use Rattle.pair_limits.specs.Limits.{placed_of}
use Rattle.turns.specs.Turns.{ending_of, after_of, stepped_of}
use Rattle.turns.specs.declared.Progress.{Progress}
use Rattle.turns.specs.declared.Paired.{Paired}
use Rattle.turns.specs.declared.Turn.{Turn}
use Rattle.turns.specs.declared.Turn.TheVariants.{Done}
use Rattle.turns.specs.declared.Plan.{Plan}
use Rattle.turns.specs.declared.Plan.TheVariants.{Leave}
use Rattle.planning.specs.Plan.{one_more, plan_of}

pub wide-two : {w : Width} → w ≡ wide.Two → ◌≡◌ {A = ℕ} 2 (suc (more_of w))
wide-two e = rw e

pub wide-three : {w : Width} → w ≡ wide.Three → ◌≡◌ {A = ℕ} 3 (suc (more_of w))
wide-three e = rw e

pub wide-four : {w : Width} → w ≡ wide.Four → ◌≡◌ {A = ℕ} 4 (suc (more_of w))
wide-four e = rw e

module _ {st : PairStep} (g : Progress) (f : text.Form) where
  pub plan-ends : st ≡ Ends → {two : Paired} → two ≡ ending_of g → Leave (Done two) ≡ plan_of st g f
  plan-ends e i = rw (e, i)

  module _ {body : Body} {end next : ℕ} {on : Bool} (e : st ≡ Takes body end next on) where
    pub plan-skips : body ≡ Skipped → {g' : Progress} {u : Turn} → g' ≡ stepped_of g g.lines end next on → u ≡ after_of g' → Leave u ≡ plan_of st g f
    plan-skips b i j = rw (e, b, j, i)

    pub plan-places : {a n ar k : ℕ} → body ≡ Placed a n ar k → {w area m : ℕ} {g' : Progress} {r : Plan} → w ≡ suc (more_of f.width) → area ≡ ar → m ≡ one_more g.lines → g' ≡ stepped_of g m end next on
        → r ≡ placed_of (record { big = f.big; width = w; place = g.next; address = a; bytes = n; fragments = k; area = area }) g' g.next → r ≡ plan_of st g f
    plan-places b h i k j x = rw (e, b, x, j, h, i, k)

-- `one_more`
pub more-counted : (n : ℕ) → n < 18446744073709551615 → n + 1 ≡ one_more n
unfolding one_more
more-counted n h = rw (lt-ltb n 18446744073709551615 h)

pub more-uncounted : (n : ℕ) → 18446744073709551615 ≤ n → n ≡ one_more n
unfolding one_more
more-uncounted n h = rw (le-ltb n 18446744073709551615 h)

pub ruleset planning = (rules, wide-two, wide-three, wide-four, more-counted, more-uncounted, plan-ends, plan-skips, plan-places)
