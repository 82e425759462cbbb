-- What is given and written: 24 by the length alone, rows in the pool have as many masks as values, and what was written gives back what was given.
-- Assumes nothing.
use Prim.Native.Nat.{ℕ, zero, suc, min, ◌+◌, ◌*◌, ◌<◌, ◌≤◌}
use mathlib.Core.Path.{◌≡◌, refl, sym, ap, ◌∙◌}
use mathlib.Core.Bool.{Bool, true, false, ◌&&◌}
use mathlib.Core.List.{List, [], ◌∷◌, ◌++◌}
use native.Mathlib.Omega.{arith}
use lib.ListN.{length, length-append, length-take, length-drop, drop}
use lib.Dec.{leb, ltb}
use borrow.Author.Tests.{leb-true, leb-false, lt-ltb, ltb-false}
use Rattle.format.specs.Lists.{pick, flat}
use Rattle.format.specs.Outcome.{Outcome, fine, refused, and_then}
use Rattle.laws.proofs.Outcomes.{chain, passed, unlike, follow}
use Rattle.book.specs.Entries.{Entry, body, in_order_of}
use Rattle.book.specs.Contents.{part, row_for, rows_for, is_small, small_row, small_rows, start}
use Rattle.book.specs.Written.{book_of, numbers_fit_of, fitted, write}
use Rattle.book.specs.Given.{field_at, entry_at, given, in_pool, pooled, arranged, packed, most_bytes}
use Rattle.book.specs.Sets.{Sized}
use Rattle.book.specs.Promises.{GivenBack}
use Rattle.book.proofs.Numbers.{both}
use Rattle.book.proofs.Writing.{book-size}
use Rattle.book.proofs.Sorting.{inside}
use Rattle.book.proofs.Theorems.{written-gives-back}

-- numbers of a book whose length has four bytes have four bytes
rows_fit : (at : ℕ) (es : List Entry) → at + length (flat body es) ≤ most_bytes → small_rows (rows_for at es) ≡ true
unfolding rows_for small_rows small_row row_for is_small flat body
rows_fit at [] h = refl
rows_fit at (e ∷ es) h =
    let a = length-append (body e) (flat body es) in
    let b = length-append (e.name ++ e.values) e.masks in
    let c = length-append e.name e.values in
    let below = rows_fit (at + length (body e)) es (omega arith) in
    let p : at < 4294967296 = omega arith in
    let q : length e.name < 4294967296 = omega arith in
    let s : at + length e.name < 4294967296 = omega arith in
    let t : length e.values < 4294967296 = omega arith in
    rw (lt-ltb at 4294967296 p, lt-ltb (length e.name) 4294967296 q, lt-ltb (at + length e.name) 4294967296 s, lt-ltb (length e.values) 4294967296 t) below

numbers_fit : (es : List Entry) → length (book_of es) ≤ most_bytes → numbers_fit_of es ≡ true
unfolding numbers_fit_of is_small
numbers_fit es h =
    let a = book-size es in
    let b : length es < 4294967296 = omega arith in
    rw (lt-ltb (length es) 4294967296 b) (rows_fit (start (length es)) es (omega arith))

-- 24 by the length alone
pub fitted-by-length : (room : ℕ) (es : List Entry) → fitted (min room most_bytes) es ≡ pick (leb (length (book_of es)) (min room most_bytes)) (fine (book_of es)) (refused 24 0)
unfolding fitted
fitted-by-length room es = go (leb (length (book_of es)) (min room most_bytes)) refl
  where
    none : (t : Bool) → (t && false) ≡ false
    none true = refl
    none false = refl

    go : (t : Bool) → leb (length (book_of es)) (min room most_bytes) ≡ t
        → pick (numbers_fit_of es && leb (length (book_of es)) (min room most_bytes)) (fine (book_of es)) (refused 24 0)
        ≡ pick (leb (length (book_of es)) (min room most_bytes)) (fine (book_of es)) (refused 24 0)
    go true e = let h = leb-true (length (book_of es)) (min room most_bytes) e in rw (e, numbers_fit es (omega arith))
    go false e = rw (e, none (numbers_fit_of es))

-- rows in the pool have a mask for each value
part-long : (xs : List ℕ) (at n : ℕ) → at + n ≤ length xs → length (part xs at n) ≡ n
unfolding part
part-long xs at n h = length-take n (drop at xs) ∙ omega (arith, length-drop at xs)

row_sized : (p r : List ℕ) (i : ℕ) → in_pool p r i ≡ true → length (entry_at p r i).masks ≡ length (entry_at p r i).values
unfolding in_pool entry_at
row_sized p r i h =
    let a = both (leb (field_at r i 0 + field_at r i 1) (length p)) _ h in
    let b = both (leb (field_at r i 2 + field_at r i 4) (length p)) (leb (field_at r i 3 + field_at r i 4) (length p)) a.1 in
    part-long p (field_at r i 3) (field_at r i 4) (leb-true (field_at r i 3 + field_at r i 4) (length p) b.1)
    ∙ sym (part-long p (field_at r i 2) (field_at r i 4) (leb-true (field_at r i 2 + field_at r i 4) (length p) b.0))

pub pooled-sized : (p r : List ℕ) (i n : ℕ) → Sized (given p r i (pooled p r i n))
unfolding pooled given
pooled-sized p r i zero = tt
pooled-sized p r i (suc n) = go (in_pool p r i) refl (pooled-sized p r (suc i) n)
  where
    go : (t : Bool) → in_pool p r i ≡ t → Sized (given p r (suc i) (pooled p r (suc i) n)) → Sized (given p r i (pick t (suc (pooled p r (suc i) n)) 0))
    go true e s = (row_sized p r i e, s)
    go false e s = tt

pub pooled-most : (p r : List ℕ) (i n : ℕ) → pooled p r i n ≤ n
unfolding pooled
pooled-most p r i zero = omega arith
pooled-most p r i (suc n) = go (in_pool p r i) (pooled-most p r (suc i) n)
  where
    go : (t : Bool) → pooled p r (suc i) n ≤ n → pick t (suc (pooled p r (suc i) n)) 0 ≤ suc n
    go true h = omega arith
    go false h = omega arith

-- entries that are arranged lie in the pool, all of them
pub record Arranged (p r : List ℕ) (n : ℕ) (es : List Entry) : Type 0 where
  pub all_in : pooled p r 0 n ≡ n
  pub in_order : in_order_of (given p r 0 n) ≡ fine es

pub arranged-all : (p r : List ℕ) (n : ℕ) (es : List Entry) → arranged p r n ≡ fine es → Arranged p r n es
unfolding arranged
arranged-all p r n es h =
    let m = pooled p r 0 n in
    let c = chain (in_order_of (given p r 0 m)) (λ fs. pick (ltb m n) (refused 21 m) (fine fs)) es h in
    go (ltb m n) refl c.value c.first c.second
  where
    go : (t : Bool) → ltb (pooled p r 0 n) n ≡ t → (fs : List Entry) → in_order_of (given p r 0 (pooled p r 0 n)) ≡ fine fs → pick t (refused 21 (pooled p r 0 n)) (fine fs) ≡ fine es → Arranged p r n es
    go true e fs f s = unlike 21 (pooled p r 0 n) es s
    go false e fs f s =
        let a : pooled p r 0 n ≡ n = omega (arith, ltb-false (pooled p r 0 n) n e, pooled-most p r 0 n) in
        record { all_in = a; in_order = (rw a at f) ∙ s }

-- What was given and written is opened, gives back the same entries in order of names, and finds each by its name.
pub given_back : (p r : List ℕ) (n numbers room : ℕ) (book : List ℕ) → packed p r n numbers room ≡ fine book → GivenBack (given p r 0 n) book
unfolding packed write
given_back p r n numbers room book h =
    let t = passed (leb (5 * n) (length r) && leb n numbers) (and_then (arranged p r n) (fitted (min room most_bytes))) 1 0 book h in
    let c = chain (arranged p r n) (fitted (min room most_bytes)) book t.1 in
    let a = arranged-all p r n c.value c.first in
    let s : Sized (given p r 0 n) = rw a.all_in at (pooled-sized p r 0 n) in
    written-gives-back (given p r 0 n) (min room most_bytes) book s (rw a.in_order c.second)
