-- Laws for halving, by the answer of the comparison.
-- Assumes nothing.
use Prim.Native.Nat.{ℕ, ◌+◌, ◌-◌, ◌/◌, ◌<◌}
use mathlib.Core.Path.{◌≡◌, ◌∙◌}
use mathlib.Core.List.{List}
use native.Mathlib.Omega.{arith}
use borrow.Author.Rules.{rules}
use Rattle.std.specs.Prelude.{Some}
use Rattle.book.specs.Names.{order}
use Rattle.book.specs.Opened.{name_of}
use Rattle.book.specs.Found.{row_at, find, found_by}
use Rattle.book.proofs.Laws.{Halving, halve-start, halve-end, halve-before, halve-found, halve-after}
use Rattle.book_rows.specs.Told.{order_by, row_by}
use Rattle.book_rows.specs.declared.row.Row.{Row}
use Rattle.std.specs.declared.cmp.Ordering.{Ordering}
use Rattle.std.specs.declared.cmp.Ordering.TheVariants.{Less, Equal, Greater}
use Rattle.book_find.specs.Told.{found_of}
use Rattle.book_find.specs.declared.Found.{Found}

-- the name in the middle, compared
module _ {xs w : List ℕ} {low high m : ℕ} (v : Halving xs w low high) (h : low < high) (e : m ≡ low + (high - low) / 2) {name : List ℕ} (n : name ≡ name_of xs (row_at xs m)) where
  middle : m ≡ (low + high) / 2
  middle = omega arith

  pub turn-before : {y : Ordering} → order w name ≡ order_by y → y ≡ Less → Halving xs w low m
  turn-before o g = halve-before v h middle (rw (n, g) at o)

  pub turn-after : {y : Ordering} → order w name ≡ order_by y → y ≡ Greater → Halving xs w (m + 1) high
  turn-after o g = halve-after v h middle (rw (n, g) at o)

  pub turn-found : {y : Ordering} → order w name ≡ order_by y → y ≡ Equal → (r : Row) → row_by r ≡ row_at xs m → find xs w ≡ found_of (Some (record { place = r.at; size = r.size }))
  unfolding found_by
  turn-found o g r p = halve-found v h middle (rw (n, g) at o) ∙ rw (← p)

pub ruleset finding = (rules, halve-start, halve-end, turn-before, turn-after, turn-found)
