-- No second answer fits a contract: what an answer tells is told by no other.
-- Assumes nothing.
use Prim.Native.Nat.{ℕ}
use mathlib.Core.Path.{◌≡◌}
use native.Mathlib.Omega.{arith}
use Rattle.std.specs.Prelude.{Result, Ok, Err}
use Rattle.numbers.proofs.Unique.{one_number}
use Rattle.numbers.specs.Told.{told, code}
use Rattle.numbers.specs.declared.Halt.{Halt}
use Rattle.numbers.specs.declared.Read.{Read}
use Rattle.fields.specs.Told.{went}

-- a halt is told by its reason's number and its place
pub one_halt : (h k : Halt) → code h.reason ≡ code k.reason → h.at ≡ k.at → h ≡ k
one_halt h k c a =
    let e : told (Err h) ≡ told (Err k) = rw (c, a) in
    let f : ◌≡◌ {A = Result (Read ℕ) Halt} (Err h) (Err k) = one_number (Err h) (Err k) e in
    cc

-- `lead_at`, `ignore_line`
pub one_place : (a b : Result ℕ Halt) → went a ≡ went b → a ≡ b
one_place (Ok n) (Ok m) e = let p : n ≡ m = cc in rw p
one_place (Ok n) (Err h) e = absurd (let z : ◌≡◌ {A = ℕ} 0 1 = cc in omega arith)
one_place (Err h) (Ok n) e = absurd (let z : ◌≡◌ {A = ℕ} 0 1 = cc in omega arith)
one_place (Err h) (Err k) e =
    let c : code h.reason ≡ code k.reason = cc in
    let a : h.at ≡ k.at = cc in
    let s : h ≡ k = one_halt h k c a in
    rw s
