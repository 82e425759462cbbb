-- No second answer fits a contract: what an answer tells is told by no other.
-- Assumes nothing.
use Prim.Native.Nat.{ℕ}
use mathlib.Core.Path.{◌≡◌, refl, ap}
use native.Mathlib.Omega.{arith}
use Rattle.std.specs.Prelude.{Option, Some, None}
use Rattle.counts.specs.Counts as the
use Rattle.h_line.specs.Told.{told_two, two_of}
use Rattle.h_line.specs.declared.Told.{Told}

-- `tells`
pub one_told : (a b : Option Told) → told_two a ≡ told_two b → a ≡ b
one_told (Some t) (Some u) e =
    let same : two_of t.areas t.symbols ≡ two_of u.areas u.symbols = cc in
    let p : t.areas ≡ u.areas = ap (λ (n : the.Two). n.areas) same in
    let q : t.symbols ≡ u.symbols = ap (λ (n : the.Two). n.symbols) same in
    rw (p, q)
one_told (Some t) None e = absurd (let z : ◌≡◌ {A = ℕ} 0 1 = cc in omega arith)
one_told None (Some u) e = absurd (let z : ◌≡◌ {A = ℕ} 0 1 = cc in omega arith)
one_told None None e = refl
