-- No second answer: what is found is told by one value only.
-- Assumes nothing.
use mathlib.Core.Path.{◌≡◌, refl, ap}
use Rattle.std.specs.Prelude.{Option, None, Some}
use Rattle.book.specs.Found as the
use Rattle.book.proofs.Sorting.{inside}
use Rattle.book_find.specs.Told.{found_of}
use Rattle.book_find.specs.declared.Found.{Found}

pub one-finding : (a b : Option Found) → found_of a ≡ found_of b → a ≡ b
one-finding (Some f) (Some g) h =
    let e = inside {A = the.Found} (record { at = f.place; size = f.size }) (record { at = g.place; size = g.size }) h in
    let a : f.place ≡ g.place = ap (λ (f : the.Found). f.at) e in
    let b : f.size ≡ g.size = ap (λ (f : the.Found). f.size) e in
    rw (a, b)
one-finding (Some f) None h = cc
one-finding None (Some g) h = cc
one-finding None None h = refl
