-- What the proofs of a pair's site share: a law for each return.
-- Assumes nothing.
use Prim.Native.Nat.{ℕ, zero, suc, ◌-◌, ◌≤◌}
use mathlib.Core.Path.{◌≡◌, refl}
use mathlib.Core.Bool.{Bool, true, false, not}
use mathlib.Core.Option.{some}
use native.Mathlib.Omega.{arith}
use borrow.Author.Rules.{rules}
use borrow.Author.Tests.{not-true, not-false}
use Rattle.format.specs.Tables.{last_index}
use Rattle.homes.specs.declared.Home.{Home}
use Rattle.sites.specs.declared.Line.{Line}
use Rattle.sites.specs.declared.Filled.{Filled}
use Rattle.sites.specs.declared.Site.{Site}
use Rattle.located.specs.declared.Found.TheVariants.{Unkept, Misfit, At}
use Rattle.located.specs.Site.{image_fits, site_at, found}

-- `locate`
pub found-id : (k : ℕ) → (k ≡ 0 → ⊥) → 1 ≤ k
found-id zero f = absurd (f refl)
found-id (suc k) f = omega arith

last_of : (k : ℕ) → (k ≡ 0 → ⊥) → last_index k ≡ some (k - 1)
last_of zero f = absurd (f refl)
last_of (suc k) f = let z : suc k - 1 ≡ k = omega arith in rw z

module _ (h : Home) (l : Line) (n : Filled) where
  pub found-unkept : h.id ≡ 0 → Unkept ≡ found h l n
  unfolding found
  found-unkept e = rw e

  module _ (k : h.id ≡ 0 → ⊥) {s : Site} (es : s ≡ site_at l n (h.id - 1) h.start h.size) {b : Bool} (eb : b ≡ image_fits s.start s.size) where
    fits-is : b ≡ image_fits h.start h.size
    fits-is = rw es at eb

    pub found-misfit : not b ≡ true → Misfit ≡ found h l n
    unfolding found
    found-misfit f = rw (last_of h.id k, ← fits-is, not-true b f)

    pub found_at : not b ≡ false → At s ≡ found h l n
    unfolding found
    found_at f = rw (last_of h.id k, ← fits-is, not-false b f, es)

pub ruleset locating = (rules, found-id, found-unkept, found-misfit, found_at)
