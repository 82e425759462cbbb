-- No second answer fits the contract of `area_id`: what an answer tells is told by no other.
-- Assumes nothing.
use Prim.Native.Nat.{ℕ}
use mathlib.Core.Path.{◌≡◌, refl}
use native.Mathlib.Omega.{arith}
use Rattle.std.specs.Prelude.{Option, Some, None}
use Rattle.kept_areas.specs.Told.{told_id}

pub one-id : (a b : Option ℕ) → told_id a ≡ told_id b → a ≡ b
one-id (Some k) (Some j) e =
    let q : k ≡ j = cc in
    rw q
one-id (Some k) None e = absurd (let z : ◌≡◌ {A = ℕ} 0 1 = cc in omega arith)
one-id None (Some j) e = absurd (let z : ◌≡◌ {A = ℕ} 0 1 = cc in omega arith)
one-id None None e = refl
