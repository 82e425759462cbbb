-- The laws of the tests of positions.
-- Assumes nothing.
use Prim.Native.Nat.{ℕ, max}
use mathlib.Core.Path.{◌≡◌, refl}
use mathlib.Core.Bool.{Bool, true, false}
use native.Mathlib.Omega.{arith}
use lib.Dec.{leb}
use borrow.Author.Rules.{rules}
use borrow.Author.Tests.{leb-true, leb-false}
use Rattle.format.specs.Lists.{pick}

-- `longer`
pub longer-is : (a b : ℕ) → max a b ≡ pick (leb a b) b a
longer-is a b = go (leb a b) refl
  where
    go : (t : Bool) → leb a b ≡ t → max a b ≡ pick t b a
    go true e = omega (arith, leb-true a b e)
    go false e = omega (arith, leb-false a b e)

pub ruleset longers = (rules, longer-is)
