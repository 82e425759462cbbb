-- No second answer fits the contract of the way in.
-- Assumes nothing.
use Prim.Native.Nat.{ℕ}
use mathlib.Core.Path.{◌≡◌, refl, sym, ◌∙◌}
use mathlib.Core.List.{List}
use native.Mathlib.Omega.{arith}
use Rattle.way_in.specs.WayIn.{told_gate, GateIs}
use Rattle.way_in.specs.declared.Lent.{Lent}
use Rattle.std.specs.Prelude.{Result, Ok, Err}
use Rattle.answer.specs.declared.Refusal.{Refusal}

same : (a b : Result (Unit {0}) Refusal) → told_gate a ≡ told_gate b → a ≡ b
same (Ok u) (Ok v) e = refl
same (Ok u) (Err r) e = absurd (let z : ◌≡◌ {A = ℕ} 0 1 = cc in omega arith)
same (Err r) (Ok u) e = absurd (let z : ◌≡◌ {A = ℕ} 0 1 = cc in omega arith)
same (Err r) (Err s) e =
    let i : r.number ≡ s.number = cc in
    let j : r.place ≡ s.place = cc in
    λ k. Err (record { number = i k; place = j k })

pub one-gate : (l : Lent) (text : List ℕ) (a b : Result (Unit {0}) Refusal) → GateIs l text a → GateIs l text b → a ≡ b
one-gate l text a b u v = same a b (u.answered ∙ sym v.answered)
