-- No second answer fits a contract: what an answer tells is told by no other.
-- Assumes nothing.
use Prim.Native.Nat.{ℕ}
use mathlib.Core.Path.{◌≡◌, refl}
use native.Mathlib.Omega.{arith}
use Rattle.std.specs.Prelude.{Result, Ok, Err}
use Rattle.numbers.specs.Told.{told, code}
use Rattle.numbers.specs.declared.Halt.{Halt}
use Rattle.numbers.specs.declared.Read.{Read}
use Rattle.numbers.specs.declared.Reason.{Reason}
use Rattle.numbers.specs.declared.Reason.TheVariants.{NoDigit, OverWord, OverByte, Other}

one_reason : (a b : Reason) → code a ≡ code b → a ≡ b
one_reason NoDigit NoDigit e = refl
one_reason NoDigit OverWord e = absurd (omega arith)
one_reason NoDigit OverByte e = absurd (omega arith)
one_reason NoDigit Other e = absurd (omega arith)
one_reason OverWord NoDigit e = absurd (omega arith)
one_reason OverWord OverWord e = refl
one_reason OverWord OverByte e = absurd (omega arith)
one_reason OverWord Other e = absurd (omega arith)
one_reason OverByte NoDigit e = absurd (omega arith)
one_reason OverByte OverWord e = absurd (omega arith)
one_reason OverByte OverByte e = refl
one_reason OverByte Other e = absurd (omega arith)
one_reason Other NoDigit e = absurd (omega arith)
one_reason Other OverWord e = absurd (omega arith)
one_reason Other OverByte e = absurd (omega arith)
one_reason Other Other e = refl

-- `any_number`, `any_byte`, `any_next`, and every other reader that answers a number
pub one_number : (a b : Result (Read ℕ) Halt) → told a ≡ told b → a ≡ b
one_number (Ok r) (Ok q) e =
    let v : r.value ≡ q.value = cc in
    let n : r.next ≡ q.next = cc in
    rw (v, n)
one_number (Ok r) (Err h) e = absurd (let z : ◌≡◌ {A = ℕ} 0 1 = cc in omega arith)
one_number (Err h) (Ok r) e = absurd (let z : ◌≡◌ {A = ℕ} 0 1 = cc in omega arith)
one_number (Err h) (Err k) e =
    let c : code h.reason ≡ code k.reason = cc in
    let a : h.reason ≡ k.reason = one_reason h.reason k.reason c in
    let p : h.at ≡ k.at = cc in
    rw (a, p)
