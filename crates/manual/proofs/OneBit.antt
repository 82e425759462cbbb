-- Every mode with a clear bit has a partner that differs in that bit alone: the one that is larger by that bit's worth.
-- Assumes nothing.
use Prim.Native.Nat.{suc, zero, ℕ, ◌%◌, ◌+◌, ◌/◌, ◌^◌}
use mathlib.Core.Path.{◌≡◌, ap, refl, sym, ◌∙◌}
use mathlib.Core.Bool.{false, true}
use native.Mathlib.Nat.{div-div-eq-div-mul, pow-succ'}
use native.Mathlib.Omega.{arith}
use lib.Dec.{eqb}
use borrow.Author.Tests.{eq-eqb, eqb-false, ne_eqb}
use Rattle.format.specs.Mode.{bit}
use Rattle.manual.specs.SameEffect.{AgreeBut}

-- a bit above the lowest is a bit of the half
bit-half : (j m : ℕ) → bit (suc j) m ≡ bit j (m / 2)
unfolding bit
bit-half j m = rw (pow-succ', div-div-eq-div-mul)

-- in every other bit the two agree
pub one-bit-more : (k m : ℕ) → bit k m ≡ false → AgreeBut k m (m + 2 ^ k)
unfolding bit
one-bit-more zero m c zero e = let z : ⊥ = eqb-false 0 0 e refl in absurd z
one-bit-more zero m c (suc j) e =
    let h : (m + 1) / 2 ≡ m / 2 = omega (arith, eqb-false (m / 1 % 2) 1 c) in
    bit-half j m ∙ ap (bit j) (sym h) ∙ sym (bit-half j (m + 1))
one-bit-more (suc k) m c zero e =
    let h : (m + 2 ^ suc k) / 1 % 2 ≡ m / 1 % 2 = omega arith in
    rw h
one-bit-more (suc k) m c (suc j) e =
    let h : (m + 2 ^ suc k) / 2 ≡ m / 2 + 2 ^ k = omega arith in
    let ne : eqb j k ≡ false = ne_eqb j k (λ x. eqb-false (suc j) (suc k) e (ap suc x)) in
    bit-half j m ∙ one-bit-more k (m / 2) (sym (bit-half k m) ∙ c) j ne ∙ ap (bit j) (sym h) ∙ sym (bit-half j (m + 2 ^ suc k))

-- and the partner has it set
pub one-bit-set : (k m : ℕ) → bit k m ≡ false → bit k (m + 2 ^ k) ≡ true
unfolding bit
one-bit-set zero m c = eq-eqb ((m + 1) / 1 % 2) 1 (omega (arith, eqb-false (m / 1 % 2) 1 c))
one-bit-set (suc k) m c =
    let h : (m + 2 ^ suc k) / 2 ≡ m / 2 + 2 ^ k = omega arith in
    bit-half k (m + 2 ^ suc k) ∙ ap (bit k) h ∙ one-bit-set k (m / 2) (sym (bit-half k m) ∙ c)
