-- No second answer: the answer, the lent bytes and the lent numbers are fixed by what is given and lent.
-- Assumes nothing.
use Prim.Native.Nat.{ℕ}
use mathlib.Core.Path.{◌≡◌, sym, ◌∙◌}
use mathlib.Core.List.{List}
use Rattle.std.specs.Prelude.{Result}
use Rattle.book_plan.specs.declared.plan.Refusal.{Refusal}
use Rattle.book_plan.proofs.Unique.{one-plan}
use Rattle.book_told.specs.Told.{Written}

pub one-writing : {pool rows : List ℕ} {n : ℕ} {out order : List ℕ} {a b : Result ℕ Refusal} {x y v w : List ℕ}
    → Written pool rows n out order a x v → Written pool rows n out order b y w → (a ≡ b) × (x ≡ y) × (v ≡ w)
one-writing {pool} {rows} {n} {out} {order} {a} {b} s t =
    (one-plan a b (sym s.answer ∙ t.answer), s.bytes-hold ∙ sym t.bytes-hold, s.numbers-hold ∙ sym t.numbers-hold)
