-- The laws of bytes joined, and what a number that bytes make tells of them.
-- Assumes nothing.
use Prim.Native.Nat.{ℕ, ◌<◌, ◌≤◌}
use mathlib.Core.Path.{◌≡◌, refl, sym, ◌∙◌}
use mathlib.Core.Bool.{Bool, true, false}
use native.Mathlib.Omega.{arith}
use borrow.Author.Rules.{rules}
use borrow.Author.Tests.{lt-ltb, le-ltb}
use Rattle.scan.proofs.Laws.Tests.{by_order}
use Rattle.joined_bytes.specs.Steps.{join_step}
use Rattle.byte_joins.specs.Joins.{two_joined, three_joined}

-- `two_joined`
module _ (big : Bool) (x y : ℕ) where
  pub two_none : 255 < x → 65536 ≡ two_joined big x y
  unfolding two_joined
  two_none h = rw (lt-ltb 255 x h)

  module _ (l : x ≤ 255) where
    pub two-half : 255 < y → 65536 ≡ two_joined big x y
    unfolding two_joined
    two-half h = rw (le-ltb 255 x l, lt-ltb 255 y h)

    pub two_is : y ≤ 255 → {r : ℕ} → r ≡ join_step big x 256 y → r ≡ two_joined big x y
    unfolding two_joined
    two_is k e = rw (le-ltb 255 x l, le-ltb 255 y k) e

  pub two-parts : {r : ℕ} → r ≡ two_joined big x y → r < 65536 → (x ≤ 255) × (y ≤ 255) × (r ≡ join_step big x 256 y)
  two-parts {r} e h =
      by_order 255 x (λ l. absurd (let z : r ≡ 65536 = e ∙ sym (two_none l) in omega arith))
      (λ l. by_order 255 y (λ k. absurd (let z : r ≡ 65536 = e ∙ sym (two-half l k) in omega arith)) (λ k. (l, k, e ∙ sym (two_is l k refl))))

pub two-under : (big : Bool) (x y : ℕ) → x ≤ 255 → y ≤ 255 → join_step big x 256 y < 65536
unfolding join_step
two-under true x y l k = omega arith
two-under false x y l k = omega arith

-- `three_joined`
module _ (big : Bool) (a b c : ℕ) where
  pub three-none : 255 < a → 16777216 ≡ three_joined big a b c
  unfolding three_joined
  three-none h = rw (lt-ltb 255 a h)

  module _ (l : a ≤ 255) where
    pub three-one : 255 < b → 16777216 ≡ three_joined big a b c
    unfolding three_joined
    three-one h = rw (le-ltb 255 a l, lt-ltb 255 b h)

    module _ (m : b ≤ 255) where
      pub three-two : 255 < c → 16777216 ≡ three_joined big a b c
      unfolding three_joined
      three-two h = rw (le-ltb 255 a l, le-ltb 255 b m, lt-ltb 255 c h)

      pub three-is : c ≤ 255 → {g : ℕ} → g ≡ join_step big a 256 b → {r : ℕ} → r ≡ join_step big g 65536 c → r ≡ three_joined big a b c
      unfolding three_joined
      three-is k e f = rw (le-ltb 255 a l, le-ltb 255 b m, le-ltb 255 c k, ← e) f

  pub three-parts : {r : ℕ} → r ≡ three_joined big a b c → r < 16777216 → (a ≤ 255) × (b ≤ 255) × (c ≤ 255) × (r ≡ join_step big (join_step big a 256 b) 65536 c)
  three-parts {r} e h =
      by_order 255 a (λ l. absurd (let z : r ≡ 16777216 = e ∙ sym (three-none l) in omega arith))
      (λ l.
      by_order 255 b (λ m. absurd (let z : r ≡ 16777216 = e ∙ sym (three-one l m) in omega arith))
      (λ m. by_order 255 c (λ k. absurd (let z : r ≡ 16777216 = e ∙ sym (three-two l m k) in omega arith)) (λ k. (l, m, k, e ∙ sym (three-is l m k refl refl)))))

pub ruleset joining = (rules, two_none, two-half, two_is, three-none, three-one, three-two, three-is)
