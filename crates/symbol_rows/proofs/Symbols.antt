-- The laws of what a symbol's row says.
-- Assumes nothing.
use Prim.Native.Nat.{ℕ, ◌+◌, ◌*◌}
use mathlib.Core.Path.{◌≡◌, ap, ◌∙◌}
use mathlib.Core.List.{List}
use native.Mathlib.Nat.{add-zero}
use lib.ListN.{get_or}
use lib.Dec.{eqb}
use borrow.Author.Rules.{rules}
use Rattle.laws.specs.Rows.{symbol_at}
use Rattle.row_parts.specs.Parts.{part_of, name_in}

module _ (s : List ℕ) (i : ℕ) where
  pub symbol-name : (t : List ℕ) {r : List ℕ} {a n x y : ℕ} → x ≡ get_or s (5 * i + 0) 0 → a ≡ x → y ≡ get_or s (5 * i + 1) 0 → n ≡ y → r ≡ part_of t a n → r ≡ name_in t (symbol_at s i).name
  unfolding symbol_at
  symbol-name t {r} {a} {n} e f g h k =
      let z : 5 * i + 0 ≡ 5 * i = add-zero (5 * i) in
      k ∙ (ap (λ (m : ℕ). part_of t m n) (f ∙ (e ∙ ap (λ (m : ℕ). get_or s m 0) z)) ∙ ap (λ (m : ℕ). part_of t (get_or s (5 * i) 0) m) (h ∙ g))

  pub symbol-ref : {x : ℕ} → x ≡ get_or s (5 * i + 2) 0 → eqb x 1 ≡ (symbol_at s i).ref
  unfolding symbol_at
  symbol-ref e = rw e

  pub symbol-value : {x : ℕ} → x ≡ get_or s (5 * i + 3) 0 → x ≡ (symbol_at s i).value
  unfolding symbol_at
  symbol-value e = e

pub ruleset symbols = (rules, symbol-name, symbol-ref, symbol-value)
