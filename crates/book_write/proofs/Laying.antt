-- Laws for the rows and bodies of entries by a list of their numbers, laid one behind the other.
-- Assumes nothing.
use Prim.Native.Nat.{ℕ, zero, suc, ◌+◌, ◌*◌, ◌-◌, ◌^◌, ◌<◌, ◌≤◌}
use native.Mathlib.Numerals.{add-one}
use native.Mathlib.Nat.{zero-add}
use mathlib.Core.Path.{◌≡◌, refl, sym, ap, ◌∙◌}
use mathlib.Core.List.{List, [], ◌∷◌, ◌++◌}
use mathlib.Core.Bool.{true}
use native.Mathlib.Omega.{arith}
use lib.Dec.{ltb}
use borrow.Author.Tests.{ltb-true}
use lib.ListN.{length, length-append, get_or}
use lib.Seq.{sets, length-sets}
use borrow.Author.Rules.{rules}
use Rattle.cells.proofs.Laws.{sets-append}
use Rattle.format.specs.Lists.{flat}
use Rattle.book.specs.Entries.{Entry, body}
use Rattle.book.specs.Contents.{four, Row, row_bytes, row_for, rows_for, is_small, small_row, small_rows, start}
use Rattle.book.specs.Given.{entry_at}
use Rattle.book.specs.Written.{book_of}
use Rattle.book.proofs.Numbers.{both}
use Rattle.book_write.specs.Listed.{listed}
use Rattle.book_write.proofs.Entries.{four-long}

-- the entries, one by one
listed_more : (p r o : List ℕ) (i n : ℕ) → i < n → listed p r o i (n - i) ≡ entry_at p r (get_or o i 0) ∷ listed p r o (suc i) (n - suc i)
unfolding listed
listed_more p r o i n h =
    let e : n - i ≡ suc (n - suc i) = omega arith in
    rw e

listed-none : (p r o : List ℕ) (i n : ℕ) → n ≤ i → listed p r o i (n - i) ≡ []
unfolding listed
listed-none p r o i n h = let e : n - i ≡ 0 = omega arith in rw e

pub listed-length : (p r o : List ℕ) (i n : ℕ) → length (listed p r o i n) ≡ n
unfolding listed
listed-length p r o i zero = refl
listed-length p r o i (suc n) = ap suc (listed-length p r o (suc i) n)

-- an entry by its place in the list of numbers
pub nth-fits : (p r o : List ℕ) (i to : ℕ) {k j : ℕ} → k ≡ i → j ≡ get_or o k 0 → to + length (entry_at p r (get_or o i 0)).name < 2 ^ 32 → to + length (entry_at p r j).name < 2 ^ 32
nth-fits p r o i to a b h = rw (b, a) h

pub nth-row : (p r o out : List ℕ) (i to : ℕ) {k j : ℕ} {left : List ℕ} → k ≡ i → j ≡ get_or o k 0 → left ≡ sets out (4 + 16 * k) (row_bytes (row_for to (entry_at p r j)))
    → left ≡ sets out (4 + 16 * i) (row_bytes (row_for to (entry_at p r (get_or o i 0))))
nth-row p r o out i to a b e = e ∙ rw (b, a)

pub nth-body : (p r o out : List ℕ) (i to : ℕ) {k j : ℕ} {left : List ℕ} → k ≡ i → j ≡ get_or o k 0 → left ≡ sets out to (body (entry_at p r j)) → left ≡ sets out to (body (entry_at p r (get_or o i 0)))
nth-body p r o out i to a b e = e ∙ rw (b, a)

pub nth-ends : (p r o : List ℕ) (i to : ℕ) {k j b : ℕ} → k ≡ i → j ≡ get_or o k 0 → b ≡ length (body (entry_at p r j)) → to + b ≡ to + length (body (entry_at p r (get_or o i 0)))
nth-ends p r o i to a b e = rw (e, b, a)

pub ruleset nth = (rules, nth-fits, nth-row, nth-body, nth-ends)

-- small numbers of the first row
first_small : (to : ℕ) (e : Entry) (es : List Entry) → small_rows (rows_for to (e ∷ es)) ≡ true → to + length e.name < 4294967296
unfolding rows_for small_rows small_row row_for is_small
first_small to e es h =
    let a = both (small_row (row_for to e)) (small_rows (rows_for (to + length (body e)) es)) h in
    let b = both (ltb to 4294967296) _ a.0 in
    let c = both (ltb (length e.name) 4294967296) _ b.1 in
    let d = both (ltb (to + length e.name) 4294967296) _ c.1 in
    ltb-true (to + length e.name) 4294967296 d.0

later-small : (to : ℕ) (e : Entry) (es : List Entry) → small_rows (rows_for to (e ∷ es)) ≡ true → small_rows (rows_for (to + length (body e)) es) ≡ true
unfolding rows_for small_rows
later-small to e es h = (both (small_row (row_for to e)) (small_rows (rows_for (to + length (body e)) es)) h).1

row-long : (r : Row) → length (row_bytes r) ≡ 16
unfolding row_bytes four
row-long r = refl

-- laying down the rows
pub record Contents (p r o : List ℕ) (n : ℕ) (old new : List ℕ) (i to : ℕ) : Type 0 where
  pub within : i ≤ n
  pub small : small_rows (rows_for to (listed p r o i (n - i))) ≡ true
  pub bound : to < 2 ^ 40
  pub long : length new ≡ length old
  pub store : sets old 4 (flat row_bytes (rows_for (start n) (listed p r o 0 n))) ≡ sets new (4 + 16 * i) (flat row_bytes (rows_for to (listed p r o i (n - i))))

pub contents-start : (p r o : List ℕ) (n : ℕ) (old : List ℕ) {k : ℕ} → n < 2 ^ 32 → k ≡ n → small_rows (rows_for (start n) (listed p r o 0 n)) ≡ true → Contents p r o n old old 0 (4 + 16 * k)
contents-start p r o n old h e s = let z : n - 0 ≡ n = omega arith in record { within = omega arith; small = rw (e, z) s; bound = omega arith; long = refl; store = rw (e, z) }

module _ {p r o : List ℕ} {n : ℕ} {old new : List ℕ} {i to : ℕ} (w : Contents p r o n old new i to) where
  pub contents-end : n ≤ i → new ≡ sets old 4 (flat row_bytes (rows_for (start n) (listed p r o 0 n)))
  unfolding rows_for flat
  contents-end h = sym (w.store ∙ rw (listed-none p r o i n h))

  module _ (h : i < n) where
    pub contents-fit : to + length (entry_at p r (get_or o i 0)).name < 2 ^ 32
    contents-fit = first_small to (entry_at p r (get_or o i 0)) (listed p r o (suc i) (n - suc i)) (rw (listed_more p r o i n h) at w.small)

    pub contents-more : {end : ℕ} {left : List ℕ} → left ≡ sets new (4 + 16 * i) (row_bytes (row_for to (entry_at p r (get_or o i 0)))) → end ≡ to + length (body (entry_at p r (get_or o i 0))) → end ≤ to + 3 * 2 ^ 32
        → Contents p r o n old left (i + 1) end
    unfolding rows_for flat
    contents-more {end} {left} e y g =
        let x = entry_at p r (get_or o i 0) in
        let es = listed p r o (suc i) (n - suc i) in
        let s : small_rows (rows_for to (x ∷ es)) ≡ true = rw (listed_more p r o i n h) at w.small in
        let t : to + length x.name < 4294967296 = first_small to x es s in
        let u : 4 + 16 * i + 16 ≡ 4 + 16 * suc i = omega arith in
        record {
          within = omega arith;
          small = rw (add-one, y) (later-small to x es s);
          bound = omega arith;
          long = ap length e ∙ (length-sets new (4 + 16 * i) (row_bytes (row_for to x)) ∙ w.long);
          store = w.store ∙ rw (listed_more p r o i n h, sets-append, row-long, add-one, u, y, e);
        }

pub ruleset contents = (rules, contents-start, contents-end, contents-fit, contents-more)

-- laying down the bodies
pub record Bodies (p r o : List ℕ) (n : ℕ) (old new : List ℕ) (i to : ℕ) : Type 0 where
  pub within : i ≤ n
  pub small : small_rows (rows_for to (listed p r o i (n - i))) ≡ true
  pub bound : to < 2 ^ 40
  pub long : length new ≡ length old
  pub store : sets old (start n) (flat body (listed p r o 0 n)) ≡ sets new to (flat body (listed p r o i (n - i)))

pub bodies-start : (p r o : List ℕ) (n : ℕ) (old : List ℕ) {k : ℕ} → n < 2 ^ 32 → k ≡ n → small_rows (rows_for (start n) (listed p r o 0 n)) ≡ true → Bodies p r o n old old 0 (4 + 16 * k)
bodies-start p r o n old h e s = let z : n - 0 ≡ n = omega arith in record { within = omega arith; small = rw (e, z) s; bound = omega arith; long = refl; store = rw (e, z) }

module _ {p r o : List ℕ} {n : ℕ} {old new : List ℕ} {i to : ℕ} (w : Bodies p r o n old new i to) where
  pub bodies-end : n ≤ i → new ≡ sets old (start n) (flat body (listed p r o 0 n))
  unfolding flat
  bodies-end h = sym (w.store ∙ rw (listed-none p r o i n h))

  pub bodies-more : {end : ℕ} {left : List ℕ} → i < n → left ≡ sets new to (body (entry_at p r (get_or o i 0))) → end ≡ to + length (body (entry_at p r (get_or o i 0))) → end ≤ to + 3 * 2 ^ 32
      → Bodies p r o n old left (i + 1) end
  unfolding flat
  bodies-more {end} {left} h e y g =
      let x = entry_at p r (get_or o i 0) in
      let es = listed p r o (suc i) (n - suc i) in
      let s : small_rows (rows_for to (x ∷ es)) ≡ true = rw (listed_more p r o i n h) at w.small in
      let t : to + length x.name < 4294967296 = first_small to x es s in
      record {
        within = omega arith;
        small = rw (add-one, y) (later-small to x es s);
        bound = omega arith;
        long = ap length e ∙ (length-sets new to (body x) ∙ w.long);
        store = w.store ∙ rw (listed_more p r o i n h, sets-append, add-one, y, e);
      }

pub ruleset bodies = (rules, bodies-start, bodies-end, bodies-more)

-- the whole book laid down
rows_long : (at : ℕ) (es : List Entry) → length (flat row_bytes (rows_for at es)) ≡ 16 * length es
unfolding flat rows_for
rows_long at [] = refl
rows_long at (e ∷ es) = rw (length-append, row-long (row_for at e), rows_long (at + length (body e)) es) (omega arith)

pub book-laid : (p r o : List ℕ) (n : ℕ) (old : List ℕ) {a b c : List ℕ} → a ≡ sets old 0 (four n) → b ≡ sets a 4 (flat row_bytes (rows_for (start n) (listed p r o 0 n))) → c ≡ sets b (start n) (flat body (listed p r o 0 n))
    → c ≡ sets old 0 (book_of (listed p r o 0 n))
unfolding book_of
book-laid p r o n old e f g =
    let es = listed p r o 0 n in
    let k : length (four n ++ flat row_bytes (rows_for (start n) es)) ≡ start n = length-append (four n) _ ∙ rw (four-long n, rows_long (start n) es, listed-length p r o 0 n) in
    g ∙ rw (f, e, listed-length p r o 0 n) (sym (sets-append old 0 (four n ++ flat row_bytes (rows_for (start n) es)) (flat body es) ∙ rw (zero-add, k, sets-append old 0 (four n) (flat row_bytes (rows_for (start n) es)), zero-add, four-long n)))

pub ruleset laying = (rules, book-laid)
