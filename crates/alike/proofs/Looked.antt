-- The laws of the index that is looked for, and what it says of the list.
-- Assumes nothing.
use Prim.Native.Nat.{ℕ, zero, suc, ◌+◌, ◌-◌, ◌<◌, ◌≤◌}
use mathlib.Core.Path.{◌≡◌, refl, ap, sym, ◌∙◌}
use mathlib.Core.Bool.{Bool, true, false, not}
use mathlib.Core.List.{List}
use native.Mathlib.Omega.{arith}
use native.Mathlib.Numerals.{add-one}
use borrow.Author.Rules.{rules}
use borrow.Author.Tests.{lt-ltb, le-ltb}
use Rattle.format.specs.Lists.{pick}
use Rattle.laws.specs.Rows.{from, fixup_row, fixups_in}
use Rattle.row_parts.specs.Ranges.{passing}
use Rattle.difference.specs.Module.{same_numbers, says}
use Rattle.difference.specs.Changes.{said_in}
use Rattle.alike.specs.Parts.{same_at}
use Rattle.alike.specs.Looked.{first_of, like_from}

-- the loop
pub record Looking (p : ℕ → Bool) (n j : ℕ) : Type 0 where
  pub rest : first_of p n ≡ passing (λ (k : ℕ). not (p k)) j (n - j)

pub look-start : (p : ℕ → Bool) (n : ℕ) → Looking p n 0
unfolding first_of
look-start p n = record { rest = ap (passing (λ (k : ℕ). not (p k)) 0) (omega arith) }

module _ {p : ℕ → Bool} {n j : ℕ} (w : Looking p n j) where
  pub look-end : n ≤ j → j ≡ first_of p n
  unfolding passing
  look-end h = let z : n - j ≡ 0 = omega arith in sym (w.rest ∙ rw z)

  module _ (h : j < n) where
    here : {b : Bool} → p j ≡ b → first_of p n ≡ pick (not b) (passing (λ (k : ℕ). not (p k)) (suc j) (n - suc j)) j
    unfolding passing
    here e = let z : n - j ≡ suc (n - suc j) = omega arith in w.rest ∙ (ap (λ (m : ℕ). passing (λ (k : ℕ). not (p k)) j m) z ∙ rw e)

    pub look-found : {b : Bool} → b ≡ p j → b ≡ true → j ≡ first_of p n
    look-found e f = sym (here (sym e ∙ f))

    pub look-more : {b : Bool} → b ≡ p j → b ≡ false → Looking p n (j + 1)
    look-more e f = record { rest = here (sym e ∙ f) ∙ rw add-one }

-- `same_fixup` as a test of indexes
pub test-is : (s xs : List ℕ) (i : ℕ) (t ys : List ℕ) (j : ℕ) {b : Bool} → b ≡ same_numbers (says s (fixup_row xs i)) (says t (fixup_row ys j)) → b ≡ same_at s xs i t ys j
unfolding same_at
test-is s xs i t ys j e = e

module _ (s xs : List ℕ) (i : ℕ) (t ys : List ℕ) {n j : ℕ} (w : Looking (same_at s xs i t ys) n j) (h : j < n) {b : Bool} (e : b ≡ same_numbers (says s (fixup_row xs i)) (says t (fixup_row ys j))) where
  pub like-found : b ≡ true → j ≡ first_of (same_at s xs i t ys) n
  like-found f = look-found w h (test-is s xs i t ys j e) f

  pub like-more : b ≡ false → Looking (same_at s xs i t ys) n (j + 1)
  like-more f = look-more w h (test-is s xs i t ys j e) f

-- `fixup_like`
module _ (p : ℕ → Bool) (n x : ℕ) where
  pub like-past : n ≤ x → {r : ℕ} → r ≡ first_of p n → r ≡ like_from p n x
  unfolding like_from
  like-past h e = rw (le-ltb x n h) e

  like-in : x < n → {b : Bool} → p x ≡ b → like_from p n x ≡ pick b x (first_of p n)
  unfolding like_from
  like-in h e = rw (lt-ltb x n h, e)

module _ (s xs : List ℕ) (i : ℕ) (t ys : List ℕ) (n x : ℕ) (h : x < n) {b : Bool} (e : b ≡ same_numbers (says s (fixup_row xs i)) (says t (fixup_row ys x))) where
  pub like-there : b ≡ true → x ≡ like_from (same_at s xs i t ys) n x
  like-there f = sym (like-in (same_at s xs i t ys) n x h (sym (test-is s xs i t ys x e) ∙ f))

  pub like-first : b ≡ false → {r : ℕ} → r ≡ first_of (same_at s xs i t ys) n → r ≡ like_from (same_at s xs i t ys) n x
  like-first f g = g ∙ sym (like-in (same_at s xs i t ys) n x h (sym (test-is s xs i t ys x e) ∙ f))

pub ruleset looks = (rules, look-start, look-end, like-found, like-more)

pub ruleset likes = (rules, like-past, like-there, like-first)
