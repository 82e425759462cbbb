-- What the proofs of a number's bytes share: a law for each return.
-- Assumes nothing.
use Prim.Native.Nat.{ℕ, suc, ◌+◌, ◌%◌, ◌/◌}
use mathlib.Core.Path.{◌≡◌, ◌∙◌}
use mathlib.Core.Bool.{Bool, true, false}
use mathlib.Core.List.{List, [], ◌∷◌}
use native.Mathlib.Omega.{arith}
use lib.ListN.{set}
use lib.Seq.{sets}
use borrow.Author.Rules.{rules}
use Rattle.format.specs.Lists.{pick}
use Rattle.laid.specs.Laid.{in_bytes, low_first, low_last}

-- `put2`, `put3`
pub two : (l : List ℕ) (i a b : ℕ) {l₁ l₂ : List ℕ} → l₁ ≡ set l i a → l₂ ≡ set l₁ (i + 1) b → l₂ ≡ sets l i (a ∷ b ∷ [])
two l i a b e f = let m : i + 1 ≡ suc i = omega arith in rw (f, e, m)

pub three : (l : List ℕ) (i a b c : ℕ) {l₁ l₂ : List ℕ} → l₁ ≡ sets l i (a ∷ b ∷ []) → l₂ ≡ set l₁ (i + 2) c → l₂ ≡ sets l i (a ∷ b ∷ c ∷ [])
three l i a b c e f = let m : i + 2 ≡ suc (suc i) = omega arith in rw (f, e, m)

pub ruleset putting = (rules, two, three)

-- `put_two`, `put_three`
module _ (l : List ℕ) (at v : ℕ) {a b : ℕ} (ea : a ≡ v % 256) (eb : b ≡ v / 256 % 256) {l' : List ℕ} (big : Bool) where
  pub two-big : big ≡ true → l' ≡ sets l at (b ∷ a ∷ []) → l' ≡ sets l at (in_bytes big 2 v)
  unfolding in_bytes low_last
  two-big t e = e ∙ rw (ea, eb, t)

  pub two-little : big ≡ false → l' ≡ sets l at (a ∷ b ∷ []) → l' ≡ sets l at (in_bytes big 2 v)
  unfolding in_bytes low_first
  two-little t e = e ∙ rw (ea, eb, t)

  module _ {c : ℕ} (ec : c ≡ v / 256 / 256 % 256) where
    pub three-big : big ≡ true → l' ≡ sets l at (c ∷ b ∷ a ∷ []) → l' ≡ sets l at (in_bytes big 3 v)
    unfolding in_bytes low_last
    three-big t e = e ∙ rw (ea, eb, ec, t)

    pub three-little : big ≡ false → l' ≡ sets l at (a ∷ b ∷ c ∷ []) → l' ≡ sets l at (in_bytes big 3 v)
    unfolding in_bytes low_first
    three-little t e = e ∙ rw (ea, eb, ec, t)

pub ruleset numbering = (rules, two-big, two-little, three-big, three-little)

-- `put_number`
module _ (l : List ℕ) (at v : ℕ) (big t : Bool) {p : ℕ} (ep : p ≡ at) {l' : List ℕ} where
  pub number-three : t ≡ true → l' ≡ sets l p (in_bytes big 3 v) → l' ≡ sets l at (in_bytes big (pick t 3 2) v)
  number-three h e = e ∙ rw (ep, h)

  pub number-two : t ≡ false → l' ≡ sets l p (in_bytes big 2 v) → l' ≡ sets l at (in_bytes big (pick t 3 2) v)
  number-two h e = e ∙ rw (ep, h)

pub ruleset choosing = (rules, number-three, number-two)
