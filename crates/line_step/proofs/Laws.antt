-- The laws of what a line that was read does to its group.
-- Assumes nothing.
use Prim.Native.Nat.{ℕ}
use mathlib.Core.Path.{◌≡◌}
use mathlib.Core.Bool.{Bool, true, false, ◌&&◌}
use lib.Dec.{leb, eqb}
use borrow.Author.Rules.{rules}
use borrow.Author.Tests.{eq-eqb, ne_eqb}
use Rattle.format.specs.Lists.{pick}
use Rattle.line_step.specs.Steps.{line_step}
use Rattle.line_step.specs.declared.LineStep.TheVariants.{Stops, Goes, Last}

-- `whole`
pub whole-1 : (u n e : ℕ) → u ≡ n → leb 1 e ≡ (eqb u n && leb 1 e)
whole-1 u n e h = rw (eq-eqb u n h)

pub whole-2 : (u n e : ℕ) → (u ≡ n → ⊥) → false ≡ (eqb u n && leb 1 e)
whole-2 u n e h = rw (ne_eqb u n h)

-- `line_step`
module _ (u n e next place : ℕ) (ended : Bool) {t : Bool} (h : t ≡ (eqb u n && leb 1 e)) where
  pub goes_on : t ≡ true → {x : ℕ} → x ≡ pick ended next place → Goes x ≡ line_step ended u n e next place
  goes_on i j = rw (← h, i, j)

  module _ (i : t ≡ false) where
    pub stops-here : ended ≡ true → Stops ≡ line_step ended u n e next place
    stops-here j = rw (← h, i, j)

    pub last-here : ended ≡ false → Last place ≡ line_step ended u n e next place
    last-here j = rw (← h, i, j)

pub ruleset stepping = (rules, whole-1, whole-2, goes_on, stops-here, last-here)
