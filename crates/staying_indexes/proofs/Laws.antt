-- The symbol indexes of fragments, counted by the symbols that stay.
-- Assumes nothing.
use Prim.Native.Nat.{min, suc, zero, ℕ, ◌*◌, ◌+◌, ◌-◌, ◌/◌, ◌<◌, ◌≤◌}
use mathlib.Core.Path.{◌≡◌, ap, refl, sym, ◌∙◌}
use mathlib.Core.Bool.{Bool, false, not, true}
use mathlib.Core.List.{List}
use native.Mathlib.Omega.{arith}
use native.Mathlib.Numerals.{add-one}
use lib.ListN.{get_or, length, length-set, set}
use lib.Seq.{set_out}
use borrow.Author.Rules.{rules}
use Rattle.format.specs.Lists.{pick}
use Rattle.kept_symbols.specs.Staying.{down, down_one, staying, to_symbol}
use Rattle.kept_symbols.proofs.Laws.Tests.{was-no, was-yes}

-- `lower`, `count_one`
pub lower-is : (flags : List ℕ) {x y r : ℕ} → y ≡ x → r ≡ staying flags y → r ≡ staying flags x
lower-is flags e f = f ∙ ap (staying flags) e

module _ (flags fragments : List ℕ) (i : ℕ) {b : Bool} (e : b ≡ to_symbol fragments i) where
  pub down-not : not b ≡ true → fragments ≡ down_one flags fragments i
  unfolding down_one
  down-not h = sym (ap (λ (t : Bool). pick t (set fragments (3 * i + 2) (staying flags (get_or fragments (3 * i + 2) 0))) fragments) (sym e ∙ was-no b h))

  pub down-yes : not b ≡ false → {x y : ℕ} → x ≡ get_or fragments (3 * i + 2) 0 → y ≡ staying flags x → {fragments' : List ℕ} → fragments' ≡ set fragments (3 * i + 2) y → fragments' ≡ down_one flags fragments i
  unfolding down_one
  down-yes h p q g =
      g ∙ (ap (λ (m : ℕ). set fragments (3 * i + 2) m) (q ∙ ap (staying flags) p) ∙ sym (ap (λ (t : Bool). pick t (set fragments (3 * i + 2) (staying flags (get_or fragments (3 * i + 2) 0))) fragments) (sym e ∙ was-yes b h)))

pub ruleset lowering = (rules, lower-is, down-not, down-yes)

-- `count_down`
pub record Lowering (flags old : List ℕ) (n : ℕ) (fragments : List ℕ) (i : ℕ) : Type 0 where
  pub within : i ≤ n
  pub is : fragments ≡ down flags old i
  pub long : length fragments ≡ length old

pub lower-start : (flags old : List ℕ) (n : ℕ) → Lowering flags old n old 0
unfolding down
lower-start flags old n = record { within = omega arith; is = refl; long = refl }

past_same : (flags fragments : List ℕ) (i : ℕ) → length fragments / 3 ≤ i → down_one flags fragments i ≡ fragments
unfolding down_one
past_same flags fragments i h = go (to_symbol fragments i)
  where
    go : (t : Bool) → pick t (set fragments (3 * i + 2) (staying flags (get_or fragments (3 * i + 2) 0))) fragments ≡ fragments
    go true = set_out fragments (3 * i + 2) (staying flags (get_or fragments (3 * i + 2) 0)) (omega arith)
    go false = refl

down-long : (flags old : List ℕ) (n : ℕ) → length (down flags old n) ≡ length old
unfolding down down_one
down-long flags old zero = refl
down-long flags old (suc n) = go (to_symbol (down flags old n) n) (down-long flags old n)
  where
    go : (t : Bool) → length (down flags old n) ≡ length old
        → length (pick t (set (down flags old n) (3 * n + 2) (staying flags (get_or (down flags old n) (3 * n + 2) 0))) (down flags old n)) ≡ length old
    go true r = length-set (down flags old n) (3 * n + 2) (staying flags (get_or (down flags old n) (3 * n + 2) 0)) ∙ r
    go false r = r

down-past : (flags old : List ℕ) (i m : ℕ) → length old / 3 ≤ i → down flags old (i + m) ≡ down flags old i
unfolding down
down-past flags old i zero h = let z : i + 0 ≡ i = omega arith in ap (down flags old) z
down-past flags old i (suc m) h =
    let z : i + suc m ≡ suc (i + m) = omega arith in
    let l = down-long flags old (i + m) in
    ap (down flags old) z ∙ (past_same flags (down flags old (i + m)) (i + m) (omega (arith, l)) ∙ down-past flags old i m h)

down-rest : (flags old : List ℕ) (i k : ℕ) → (0 < k → length old / 3 ≤ i) → down flags old (i + k) ≡ down flags old i
down-rest flags old i zero h = let z : i + 0 ≡ i = omega arith in ap (down flags old) z
down-rest flags old i (suc k) h = down-past flags old i (suc k) (h (omega arith))

module _ {flags old : List ℕ} (n : ℕ) {fragments : List ℕ} {i : ℕ} (w : Lowering flags old (min n (length old / 3)) fragments i) {end : ℕ} (e : end ≡ min n (length old / 3)) where
  pub lower-in : i < end → i < length fragments / 3
  lower-in h = let z : length fragments / 3 ≡ length old / 3 = ap (λ (m : ℕ). m / 3) w.long in omega (arith, e, z)

  pub lower-more : i < end → {fragments' : List ℕ} → length fragments' ≡ length fragments → fragments' ≡ down_one flags fragments i → Lowering flags old (min n (length old / 3)) fragments' (i + 1)
  unfolding down
  lower-more h l d = record { within = omega (arith, e); is = d ∙ (ap (λ (f : List ℕ). down_one flags f i) w.is ∙ sym (ap (down flags old) (add-one i))); long = l ∙ w.long }

  pub lower-end : end ≤ i → fragments ≡ down flags old n
  lower-end h =
      let x : i ≡ min n (length old / 3) = omega (arith, w.within, e) in
      let z : i + (n - i) ≡ n = omega (arith, x) in
      w.is ∙ (sym (down-rest flags old i (n - i) (λ l. omega (arith, x, l))) ∙ ap (down flags old) z)

pub ruleset lowers = (rules, lower-start, lower-in, lower-more, lower-end)
