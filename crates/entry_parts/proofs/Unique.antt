-- No second answer fits a contract: what an answer tells is told by no other.
-- Assumes nothing.
use Prim.Native.Nat.{ℕ}
use mathlib.Core.Path.{◌≡◌, ap}
use native.Mathlib.Omega.{arith}
use Rattle.std.specs.Prelude.{Result, Ok, Err}
use Rattle.format.specs.Number as the
use Rattle.numbers.specs.Told.{code}
use Rattle.numbers.specs.declared.Halt.{Halt}
use Rattle.numbers.specs.declared.Read.{Read}
use Rattle.fields.proofs.Unique.{one_halt}
use Rattle.entry_parts.specs.Told.{name_of, told_name}
use Rattle.entry_parts.specs.declared.Name.{Name}

-- `title`
pub one_name : (a b : Result (Read Name) Halt) → told_name a ≡ told_name b → a ≡ b
one_name (Ok r) (Ok q) e =
    let names : name_of r.value ≡ name_of q.value = cc in
    let a : r.value.at ≡ q.value.at = ap (λ (k : the.Name). k.at) names in
    let n : r.value.len ≡ q.value.len = ap (λ (k : the.Name). k.length) names in
    let u : r.next ≡ q.next = cc in
    rw (a, n, u)
one_name (Ok r) (Err h) e = absurd (let z : ◌≡◌ {A = ℕ} 0 1 = cc in omega arith)
one_name (Err h) (Ok r) e = absurd (let z : ◌≡◌ {A = ℕ} 0 1 = cc in omega arith)
one_name (Err h) (Err k) e =
    let c : code h.reason ≡ code k.reason = cc in
    let a : h.at ≡ k.at = cc in
    let s : h ≡ k = one_halt h k c a in
    rw s
