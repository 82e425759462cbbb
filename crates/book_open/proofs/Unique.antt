-- No second answer: what opening tells is told by one value only.
-- Assumes nothing.
use Prim.Native.Nat.{ℕ}
use mathlib.Core.Path.{◌≡◌}
use Rattle.std.specs.Prelude.{Result, Ok, Err}
use Rattle.book_open.specs.Told.{opened_of}
use Rattle.book_open.specs.declared.open.Refusal.{Refusal}

pub one-opening : (a b : Result ℕ Refusal) → opened_of a ≡ opened_of b → a ≡ b
one-opening (Ok n) (Ok m) h = cc
one-opening (Ok n) (Err r) h = cc
one-opening (Err r) (Ok m) h = cc
one-opening (Err r) (Err s) h =
    let n : r.number ≡ s.number = cc in
    let p : r.place ≡ s.place = cc in
    rw (n, p)
