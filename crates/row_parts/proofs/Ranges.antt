-- The laws of rows that stand together.
-- Assumes nothing.
use Prim.Native.Nat.{ℕ, suc, ◌+◌, ◌-◌, ◌<◌, ◌≤◌}
use mathlib.Core.Path.{◌≡◌, refl, ap, sym, ◌∙◌}
use mathlib.Core.Bool.{Bool, true, false, not}
use native.Mathlib.Omega.{arith}
use native.Mathlib.Numerals.{add-one}
use borrow.Author.Rules.{rules}
use Rattle.format.specs.Lists.{pick}
use Rattle.row_parts.specs.Ranges.{same_as, passing, run_of}

-- the loops
pub record Passing (p : ℕ → Bool) (from n j : ℕ) : Type 0 where
  pub rest : passing p from (n - from) ≡ passing p j (n - j)

pub pass-start : (p : ℕ → Bool) (from n : ℕ) → Passing p from n from
pass-start p from n = record { rest = refl }

module _ {p : ℕ → Bool} {from n j : ℕ} (w : Passing p from n j) where
  pub pass-end : n ≤ j → j ≡ passing p from (n - from)
  unfolding passing
  pass-end h = let z : n - j ≡ 0 = omega arith in sym (w.rest ∙ rw z)

  module _ (h : j < n) {b : Bool} (e : b ≡ p j) where
    here : passing p j (n - j) ≡ pick b (passing p (suc j) (n - suc j)) j
    unfolding passing
    here = let z : n - j ≡ suc (n - suc j) = omega arith in ap (λ (m : ℕ). passing p j m) z ∙ rw e

    pub pass-more : b ≡ true → Passing p from n (j + 1)
    pass-more f = record { rest = w.rest ∙ (here ∙ rw (f, add-one)) }

    pub pass-stop : b ≡ false → j ≡ passing p from (n - from)
    pass-stop f = sym (w.rest ∙ (here ∙ rw f))

pub ruleset passes = (rules, pass-start, pass-end, pass-more, pass-stop)

pub run_is : (same other : ℕ → Bool) (n : ℕ) {a b : ℕ} → a ≡ passing other 0 (n - 0) → b ≡ passing same a (n - a) → record { start = a; end = b } ≡ run_of same other n
run_is same other n {a} {b} e f =
    let z : n - 0 ≡ n = omega arith in
    let x : a ≡ passing other 0 n = e ∙ ap (passing other 0) z in
    λ j. record { start = x j; end = (f ∙ ap (λ (m : ℕ). passing same m (n - m)) x) j }

pub ruleset runs = (rules, run_is)
