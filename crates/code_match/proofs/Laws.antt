-- What the proofs of matching share: a law for each return, and the loop's invariant.
-- Assumes nothing.
use Prim.Native.Nat.{ℕ, suc, ◌+◌, ◌-◌, ◌≤◌, ◌<◌}
use mathlib.Core.Path.{◌≡◌, refl, ap, sym, ◌∙◌}
use mathlib.Core.Bool.{Bool, true, false, not}
use mathlib.Core.List.{List}
use native.Mathlib.Omega.{arith}
use native.Mathlib.Numerals.{add-one}
use lib.Bits.{bit_and}
use lib.Dec.{eqb}
use lib.ListN.{length, get_or}
use borrow.Author.Rules.{rules}
use borrow.Author.Tests.{not-true}
use Rattle.code_match.specs.Match.{agrees, mismatch_from}

-- `agrees`
pub agrees-is : (v m b : ℕ) → eqb (bit_and b m) (bit_and v m) ≡ agrees v m b
unfolding agrees
agrees-is v m b = refl

pub ruleset agreeing = (rules, agrees-is)

is_true : (b : Bool) → not b ≡ false → b ≡ true
is_true true h = refl
is_true false h = sym h

-- `first_mismatch`
pub record Seeking (vs ms cs : List ℕ) (n i : ℕ) : Type 0 where
  pub within : i ≤ n
  pub rest : mismatch_from vs ms cs 0 n ≡ mismatch_from vs ms cs i (n - i)

pub seek-start : (vs ms cs : List ℕ) (n : ℕ) → Seeking vs ms cs n 0
seek-start vs ms cs n = let z : n - 0 ≡ n = omega arith in record { within = omega arith; rest = rw z }

module _ {vs ms cs : List ℕ} {n i : ℕ} (w : Seeking vs ms cs n i) where
  pub seek-end : n ≤ i → n ≡ mismatch_from vs ms cs 0 n
  unfolding mismatch_from
  seek-end h = let z : n - i ≡ 0 = omega arith in let y : i ≡ n = omega (arith, w.within) in sym (w.rest ∙ (ap (λ (k : ℕ). mismatch_from vs ms cs i k) z ∙ y))

  module _ (h : i < n) {v m b : ℕ} (ev : v ≡ get_or vs i 0) (em : m ≡ get_or ms i 0) (eb : b ≡ get_or cs i 0) {a : Bool} (ea : a ≡ agrees v m b) where
    here : agrees (get_or vs i 0) (get_or ms i 0) (get_or cs i 0) ≡ a
    here = sym (ea ∙ rw (ev, em, eb))

    pub seek-here : not a ≡ true → i ≡ mismatch_from vs ms cs 0 n
    unfolding mismatch_from
    seek-here f =
        let z : n - i ≡ suc (n - (i + 1)) = omega arith in
        let g : a ≡ false = not-true a f in
        sym (w.rest ∙ (ap (λ (k : ℕ). mismatch_from vs ms cs i k) z ∙ rw (here, g)))

    pub seek-on : not a ≡ false → Seeking vs ms cs n (i + 1)
    unfolding mismatch_from
    seek-on f =
        let z : n - i ≡ suc (n - (i + 1)) = omega arith in
        let g : a ≡ true = is_true a f in
        record { within = omega arith; rest = w.rest ∙ (ap (λ (k : ℕ). mismatch_from vs ms cs i k) z ∙ rw (here, g, add-one i)) }

pub ruleset seeking = (rules, seek-start, seek-end, seek-here, seek-on)
