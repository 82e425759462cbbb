-- The laws of the tests of a symbol.
-- Assumes nothing.
use Prim.Native.Nat.{ℕ}
use mathlib.Core.Path.{◌≡◌, ap, sym, ◌∙◌}
use mathlib.Core.Bool.{Bool, false}
use mathlib.Core.List.{List}
use lib.Dec.{eqb, leb}
use borrow.Author.Rules.{rules}
use borrow.Author.Tests.{eq-eqb, ne_eqb}
use Rattle.format.specs.Lists.{pick}
use Rattle.laws.specs.Rows.{symbol_at}
use Rattle.row_parts.specs.Parts.{name_in}
use Rattle.name_index.specs.Index.{found_in, name_at}
use Rattle.symbol_sides.specs.Sides.{on_one_side}

-- `same_value`
pub same-is : (xs : List ℕ) (i : ℕ) (ys : List ℕ) (j : ℕ) {a b : ℕ} → a ≡ (symbol_at xs i).value → b ≡ (symbol_at ys j).value → eqb a b ≡ eqb (symbol_at xs i).value (symbol_at ys j).value
same-is xs i ys j {a} {b} e f = ap (λ (x : ℕ). eqb x b) e ∙ ap (eqb (symbol_at xs i).value) f

pub ruleset values = (rules, same-is)

-- `on_one_side`
module _ (t ys : List ℕ) (m : ℕ) (index s xs : List ℕ) (n : ℕ) (other : List ℕ) (i : ℕ) {name : List ℕ} (e : name ≡ name_in t (symbol_at ys i).name) {x : ℕ} (f : x ≡ found_in name t ys m index) where
  named-is : name ≡ name_at t ys i
  unfolding name_at
  named-is = e

  x-is : x ≡ found_in (name_at t ys i) t ys m index
  x-is = f ∙ ap (λ (z : List ℕ). found_in z t ys m index) named-is

  pub side-later : (x ≡ i → ⊥) → false ≡ on_one_side t ys m index s xs n other i
  unfolding on_one_side
  side-later h = sym (ap (λ (b : Bool). pick b (leb n (found_in (name_at t ys i) s xs n other)) false) (ne_eqb (found_in (name_at t ys i) t ys m index) i (λ z. h (x-is ∙ z))))

  pub side-first : x ≡ i → {j : ℕ} → j ≡ found_in name s xs n other → leb n j ≡ on_one_side t ys m index s xs n other i
  unfolding on_one_side
  side-first g k =
      ap (leb n) (k ∙ ap (λ (z : List ℕ). found_in z s xs n other) named-is)
      ∙ sym (ap (λ (b : Bool). pick b (leb n (found_in (name_at t ys i) s xs n other)) false) (eq-eqb (found_in (name_at t ys i) t ys m index) i (sym x-is ∙ g)))

pub ruleset sides = (rules, side-later, side-first)
