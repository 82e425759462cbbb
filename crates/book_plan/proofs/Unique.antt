-- No second answer: what writing tells is told by one value only.
-- Assumes nothing.
use Prim.Native.Nat.{ℕ}
use mathlib.Core.Path.{◌≡◌}
use Rattle.std.specs.Prelude.{Result, Ok, Err}
use Rattle.book_plan.specs.Told.{wrote_of}
use Rattle.book_plan.specs.declared.plan.Refusal.{Refusal}

pub one-plan : (a b : Result ℕ Refusal) → wrote_of a ≡ wrote_of b → a ≡ b
one-plan (Ok n) (Ok m) h = cc
one-plan (Ok n) (Err r) h = cc
one-plan (Err r) (Ok m) h = cc
one-plan (Err r) (Err s) h =
    let n : r.number ≡ s.number = cc in
    let p : r.place ≡ s.place = cc in
    rw (n, p)
