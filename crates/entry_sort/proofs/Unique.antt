-- No second answer fits a contract: what an answer about Ref or Def tells is told by no other.
-- Assumes nothing.
use Prim.Native.Nat.{ℕ}
use mathlib.Core.Path.{◌≡◌}
use mathlib.Core.Bool.{Bool}
use native.Mathlib.Omega.{arith}
use Rattle.std.specs.Prelude.{Result, Ok, Err}
use Rattle.numbers.specs.Told.{code}
use Rattle.numbers.specs.declared.Halt.{Halt}
use Rattle.numbers.specs.declared.Read.{Read}
use Rattle.fields.proofs.Unique.{one_halt}
use Rattle.entry_sort.specs.Sorts.{told_ref}

-- `ref_or_def`
pub one-sort : (a b : Result (Read Bool) Halt) → told_ref a ≡ told_ref b → a ≡ b
one-sort (Ok r) (Ok q) e =
    let x : r.value ≡ q.value = cc in
    let y : r.next ≡ q.next = cc in
    rw (x, y)
one-sort (Ok r) (Err h) e = absurd (let z : ◌≡◌ {A = ℕ} 0 1 = cc in omega arith)
one-sort (Err h) (Ok r) e = absurd (let z : ◌≡◌ {A = ℕ} 0 1 = cc in omega arith)
one-sort (Err h) (Err k) e =
    let c : code h.reason ≡ code k.reason = cc in
    let a : h.at ≡ k.at = cc in
    let s : h ≡ k = one_halt h k c a in
    rw s
