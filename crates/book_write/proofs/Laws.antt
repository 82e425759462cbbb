-- Laws for the entries by a list of sorted numbers.
-- Assumes nothing.
use Prim.Native.Nat.{ℕ, zero, suc, ◌+◌, ◌<◌, ◌≤◌}
use mathlib.Core.Path.{◌≡◌, refl, ap, ◌∙◌}
use mathlib.Core.List.{List, map}
use mathlib.Core.Bool.{true}
use native.Mathlib.Omega.{arith}
use lib.Dec.{leb}
use lib.ListN.{length, take, drop}
use lib.Seq.{sets, sets-eq, length-sets, take_at, drop-cons}
use borrow.Author.Rules.{rules}
use borrow.Author.Tests.{le-leb}
use Rattle.format.specs.Lists.{pick}
use Rattle.book.specs.Contents.{rows_for, small_rows, start}
use Rattle.book.specs.Given.{entry_at, numbers_of}
use Rattle.book.specs.Written.{book_of}
use Rattle.book.proofs.Numbering.{numbers-long}
use Rattle.book_write.specs.Listed.{listed}

-- entries by a list of numbers are those that the numbers tell
listed-map : (p r o : List ℕ) (i n : ℕ) → i + n ≤ length o → listed p r o i n ≡ map (entry_at p r) (take n (drop i o))
unfolding listed
listed-map p r o i zero h = refl
listed-map p r o i (suc n) h =
    let l : i < length o = omega arith in
    rw (drop-cons o i 0 l, listed-map p r o (suc i) n (omega arith))

listed-sorted : (p r o : List ℕ) (n : ℕ) → n ≤ length o → listed p r (sets o 0 (numbers_of p r n)) 0 n ≡ map (entry_at p r) (numbers_of p r n)
listed-sorted p r o n h =
    let js = numbers_of p r n in
    let l = numbers-long p r n in
    let t : take n (sets o 0 js) ≡ js = rw (sets-eq js o 0 (omega arith)) (take_at js (drop (0 + length js) o) n l) in
    listed-map p r (sets o 0 js) 0 n (omega (arith, length-sets o 0 js)) ∙ ap (map (entry_at p r)) t

-- entries by sorted numbers, laid down
module _ (p r : List ℕ) (n : ℕ) (order : List ℕ) {sorted : List ℕ} (h : n ≤ length order) (s : sorted ≡ pick (leb n (length order)) (sets order 0 (numbers_of p r n)) order) where
  pub sorted-numbers : sorted ≡ sets order 0 (numbers_of p r n)
  sorted-numbers = s ∙ rw (le-leb n (length order) h)

  sorted_entries : listed p r sorted 0 n ≡ map (entry_at p r) (numbers_of p r n)
  sorted_entries = rw sorted-numbers (listed-sorted p r order n h)

  pub sorted-small : small_rows (rows_for (start n) (map (entry_at p r) (numbers_of p r n))) ≡ true → small_rows (rows_for (start n) (listed p r sorted 0 n)) ≡ true
  sorted-small g = rw sorted_entries g

  pub sorted-laid : (out : List ℕ) {new : List ℕ} → new ≡ sets out 0 (book_of (listed p r sorted 0 n)) → new ≡ sets out 0 (book_of (map (entry_at p r) (numbers_of p r n)))
  sorted-laid out e = e ∙ rw sorted_entries

pub ruleset sorted = (rules, sorted-numbers, sorted-small, sorted-laid)
