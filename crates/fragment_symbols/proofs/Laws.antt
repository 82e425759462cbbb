-- The symbols that fragments refer to.
-- Assumes nothing.
use Prim.Native.Nat.{ℕ, ◌*◌, ◌+◌, ◌-◌, ◌/◌, ◌%◌, ◌<◌, ◌≤◌}
use mathlib.Core.Path.{◌≡◌, ap, sym, ◌∙◌}
use mathlib.Core.Bool.{Bool, false, true}
use mathlib.Core.List.{List}
use native.Mathlib.Omega.{arith}
use lib.ListN.{get_or, length, get_or-eq_default}
use lib.Dec.{eqb}
use borrow.Author.Rules.{rules}
use Rattle.format.specs.Lists.{pick}
use Rattle.alike.proofs.Looked.{look-end, look-found, look-more, look-start}
use Rattle.kept_symbols.specs.Staying.{refers_to, to_symbol}

-- `fragment_cell`
module _ (s : List ℕ) (i c : ℕ) where
  pub three-past : length s / 3 < i → 0 ≡ get_or s (3 * i + c) 0
  three-past h = sym (get_or-eq_default s 0 (omega arith))

  pub three-short : length s - 3 * i ≤ c → 0 ≡ get_or s (3 * i + c) 0
  three-short h = sym (get_or-eq_default s 0 (omega arith))

pub ruleset columns = (rules, three-past, three-short)

-- `to_symbol`, `refers_to`
pub symbol-bit : (fragments : List ℕ) (i : ℕ) {m : ℕ} → m ≡ get_or fragments (3 * i + 0) 0 → eqb (m / 2 % 2) 1 ≡ to_symbol fragments i
unfolding to_symbol
symbol-bit fragments i e = let z : 3 * i + 0 ≡ 3 * i = omega arith in ap (λ (m : ℕ). eqb (m / 2 % 2) 1) (e ∙ ap (λ (x : ℕ). get_or fragments x 0) z)

module _ (fragments : List ℕ) (j i : ℕ) {b : Bool} (e : b ≡ to_symbol fragments i) where
  pub refers-not : b ≡ false → false ≡ refers_to fragments j i
  unfolding refers_to
  refers-not h = sym (ap (λ (t : Bool). pick t (eqb (get_or fragments (3 * i + 2) 0) j) false) (sym e ∙ h))

  pub refers-by : b ≡ true → {x y : ℕ} → x ≡ get_or fragments (3 * i + 2) 0 → y ≡ x → eqb y j ≡ refers_to fragments j i
  unfolding refers_to
  refers-by h p q = ap (λ (m : ℕ). eqb m j) (q ∙ p) ∙ sym (ap (λ (t : Bool). pick t (eqb (get_or fragments (3 * i + 2) 0) j) false) (sym e ∙ h))

pub ruleset refers = (rules, symbol-bit, refers-not, refers-by)

-- `referring`
pub ruleset looks = (rules, look-start, look-end, look-found, look-more)
