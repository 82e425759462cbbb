-- A test turned around, and a loop that tests one index after the other.
-- Assumes nothing.
use Prim.Native.Nat.{suc, ℕ, ◌+◌, ◌-◌, ◌<◌, ◌≤◌}
use mathlib.Core.Path.{◌≡◌, ap, refl, sym, ◌∙◌}
use mathlib.Core.Bool.{Bool, false, true, not}
use native.Mathlib.Omega.{arith}
use Rattle.format.specs.Lists.{pick}
use Rattle.row_texts.specs.GoodRows.{all}

pub was-no : (b : Bool) → not b ≡ true → b ≡ false
was-no true h = sym h
was-no false h = refl

pub was-yes : (b : Bool) → not b ≡ false → b ≡ true
was-yes true h = refl
was-yes false h = sym h

-- a loop over n indexes from one on
pub record Passing (p : ℕ → Bool) (a n i : ℕ) : Type 0 where
  pub within : i ≤ n
  pub rest : all p a n ≡ all p (a + i) (n - i)

pub pass-start : (p : ℕ → Bool) (a n : ℕ) → Passing p a n 0
pass-start p a n = let z : a + 0 ≡ a = omega arith in let y : n - 0 ≡ n = omega arith in record { within = omega arith; rest = sym (ap (λ (x : ℕ). all p x (n - 0)) z ∙ ap (λ (x : ℕ). all p a x) y) }

module _ {p : ℕ → Bool} {a n i : ℕ} (x : Passing p a n i) where
  pub pass-end : n ≤ i → true ≡ all p a n
  unfolding all
  pass-end h = let z : n - i ≡ 0 = omega arith in sym (x.rest ∙ ap (λ (k : ℕ). all p (a + i) k) z)

  module _ {t : Bool} (e : t ≡ p (a + i)) (h : i < n) where
    turn : all p (a + i) (n - i) ≡ pick t (all p (a + (i + 1)) (n - (i + 1))) false
    unfolding all
    turn =
        let z : n - i ≡ suc (n - (i + 1)) = omega arith in
        let y : suc (a + i) ≡ a + (i + 1) = omega arith in
        ap (λ (k : ℕ). all p (a + i) k) z ∙ (ap (λ (k : ℕ). pick (p (a + i)) (all p k (n - (i + 1))) false) y ∙ ap (λ (b : Bool). pick b (all p (a + (i + 1)) (n - (i + 1))) false) (sym e))

    pub pass-more : t ≡ true → Passing p a n (i + 1)
    pass-more g = record { within = omega arith; rest = x.rest ∙ (turn ∙ ap (λ (b : Bool). pick b (all p (a + (i + 1)) (n - (i + 1))) false) g) }

    pub pass-bad : t ≡ false → false ≡ all p a n
    pass-bad g = sym (x.rest ∙ (turn ∙ ap (λ (b : Bool). pick b (all p (a + (i + 1)) (n - (i + 1))) false) g))
