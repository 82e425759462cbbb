-- One if a test holds, and else none.
-- Assumes nothing.
use Prim.Native.Nat.{ℕ, ◌≤◌, ◌<◌}
use mathlib.Core.Path.{◌≡◌}
use mathlib.Core.Bool.{Bool, true, false}
use native.Mathlib.Omega.{arith}
use lib.Dec.{leb}
use borrow.Author.Tests.{le-leb, lt-leb}
use Rattle.format.specs.Lists.{pick}

pub one_at_most : (b : Bool) → pick b 1 0 ≤ 1
one_at_most true = omega arith
one_at_most false = omega arith

-- by whether a number is above 0
pub one-some : (z : ℕ) → 1 ≤ z → 1 ≡ pick {A = ℕ} (leb 1 z) 1 0
one-some z h = rw (le-leb 1 z h)

pub one_none : (z : ℕ) → z < 1 → 0 ≡ pick {A = ℕ} (leb 1 z) 1 0
one_none z h = rw (lt-leb 1 z h)
