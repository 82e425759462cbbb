-- No second answer fits the contract of the target: what an answer tells is told by no other.
-- Assumes nothing.
use Prim.Native.Nat.{ℕ}
use mathlib.Core.Path.{◌≡◌, ap}
use native.Mathlib.Omega.{arith}
use Rattle.std.specs.Prelude.{Result, Ok, Err}
use Rattle.target_asked.specs.Asked.{told}
use Rattle.target_asked.specs.declared.Refusal.{Refusal}

-- refusals of one number and one place are the same
one_refusal : {n p m q : ℕ} → n ≡ m → p ≡ q → ◌≡◌ {A = Refusal} (record { number = n; place = p }) (record { number = m; place = q })
one_refusal a b = rw (a, b)

-- `target`, `target_in`, `corrected_target`
pub one_answer : (a b : Result ℕ Refusal) → told a ≡ told b → a ≡ b
one_answer (Ok t) (Ok u) e =
    let q : t ≡ u = cc in
    rw q
one_answer (Ok t) (Err s) e = absurd (let z : ◌≡◌ {A = ℕ} 0 1 = cc in omega arith)
one_answer (Err r) (Ok t) e = absurd (let z : ◌≡◌ {A = ℕ} 0 1 = cc in omega arith)
one_answer (Err r) (Err s) e =
    let a : r.number ≡ s.number = cc in
    let b : r.place ≡ s.place = cc in
    ap Err (one_refusal a b)
