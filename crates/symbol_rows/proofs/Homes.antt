-- The laws of `symbol_in`: whether a symbol lies in an area.
-- Assumes nothing.
use Prim.Native.Nat.{ℕ, suc, ◌+◌, ◌*◌, ◌-◌}
use mathlib.Core.Path.{◌≡◌, refl, ap, sym, ◌∙◌}
use mathlib.Core.Bool.{Bool, true, false}
use mathlib.Core.List.{List}
use native.Mathlib.Omega.{arith}
use lib.ListN.{get_or}
use lib.Dec.{eqb}
use borrow.Author.Rules.{rules}
use borrow.Author.Tests.{eq-eqb, ne_eqb, eqb-true, eqb-false}
use Rattle.row_parts.specs.Ranges.{same_as}
use Rattle.symbol_rows.specs.Ranges.{symbol_in}

home-is : (h i : ℕ) → (h ≡ 0 → ⊥) → eqb (h - 1) i ≡ eqb h (suc i)
home-is h i f = go (eqb h (suc i)) refl
  where
    go : (b : Bool) → eqb h (suc i) ≡ b → eqb (h - 1) i ≡ b
    go true e = eq-eqb (h - 1) i (omega (arith, eqb-true h (suc i) e))
    go false e = ne_eqb (h - 1) i (λ x. eqb-false h (suc i) e (omega arith))

module _ (rows : List ℕ) (i : ℕ) (same : Bool) (j : ℕ) {r : Bool} where
  module _ {h : ℕ} (e : h ≡ get_or rows (5 * j + 4) 0) where
    pub symbol-none : h ≡ 0 → r ≡ same_as false same → r ≡ symbol_in rows i same j
    unfolding symbol_in
    symbol-none f g = g ∙ ap (λ (b : Bool). same_as b same) (sym (rw (← e, f) (ne_eqb 0 (suc i) (λ x. omega arith))))

    pub symbol-some : (h ≡ 0 → ⊥) → {k : ℕ} → k ≡ h → r ≡ same_as (eqb (k - 1) i) same → r ≡ symbol_in rows i same j
    unfolding symbol_in
    symbol-some f k g = g ∙ ap (λ (b : Bool). same_as b same) (ap (λ (m : ℕ). eqb (m - 1) i) k ∙ (home-is h i f ∙ ap (λ (m : ℕ). eqb m (suc i)) e))

pub ruleset homes = (rules, symbol-none, symbol-some)
