-- Laws for parts, names, numbers and rows of a book.
-- Assumes nothing.
use Prim.Native.Nat.{ℕ, min, ◌+◌, ◌*◌, ◌-◌, ◌<◌}
use mathlib.Core.Path.{◌≡◌, refl, sym, ◌∙◌}
use mathlib.Core.Bool.{Bool, true, false}
use mathlib.Core.List.{List, [], ◌∷◌}
use native.Mathlib.Omega.{arith}
use native.Mathlib.Nat.{le_of_lt}
use lib.ListN.{length, take, drop, drop_of_length-le}
use lib.Seq.{drop-drop}
use lib.Dec.{eqb, ltb}
use borrow.Author.Rules.{rules}
use borrow.Author.Tests.{eqb-true, eqb-false, ltb-false, lt-ltb, le-ltb}
use Rattle.std.specs.declared.cmp.Ordering.{Ordering}
use Rattle.std.specs.Ordering.{nat_cmp, ordering_then}
use Rattle.std.specs.Cmp.Lexicographic.{slice_cmp}
use Rattle.format.specs.Lists.{pick}
use Rattle.format.specs.Number.{join, little}
use Rattle.laws.proofs.Parts.{part_end}
use Rattle.book.specs.Contents.{number, part, row_of}
use Rattle.book.specs.Names.{Order, less, more, order}
use Rattle.book.specs.Opened.{name_of}
use Rattle.book.specs.Found.{row_at}
use Rattle.book.proofs.Laws.{number-joined, part-clipped}
use Rattle.book_rows.specs.Told.{order_by, row_by}
use Rattle.book_rows.specs.declared.row.Row.{Row}

-- names in std's order are names in the order of a book
by_heads : (x y : ℕ) {r : Order} (s : Ordering) → r ≡ order_by s → pick (ltb x y) less (pick (ltb y x) more r) ≡ order_by (ordering_then (nat_cmp x y) s)
by_heads x y {r} s e = go (ltb x y) (eqb x y) refl refl
  where
    go : (t u : Bool) → ltb x y ≡ t → eqb x y ≡ u → pick (ltb x y) less (pick (ltb y x) more r) ≡ order_by (ordering_then (nat_cmp x y) s)
    go true u p q = rw p
    go false true p q =
        let h : x ≡ y = eqb-true x y q in
        rw (p, q, le-ltb y x (omega arith)) e
    go false false p q =
        let h : y < x = omega (arith, ltb-false x y p, eqb-false x y q) in
        rw (p, q, lt-ltb y x h)

pub ordered_as : (a b : List ℕ) → order a b ≡ order_by (slice_cmp nat_cmp a b)
unfolding order
ordered_as [] [] = refl
ordered_as [] (y ∷ b) = refl
ordered_as (x ∷ a) [] = refl
ordered_as (x ∷ a) (y ∷ b) = by_heads x y (slice_cmp nat_cmp a b) (ordered_as a b)

-- a part, cut at the end
pub part_cut : (xs : List ℕ) (at n : ℕ) {a w m : ℕ} → a ≡ min at (length xs) → w ≡ n → m ≡ min w (length xs - a) → take (a + m - a) (drop a xs) ≡ part xs at n
part_cut xs at n {a} {w} {m} p q r =
    let e : a + m - a ≡ min (at + n) (length xs) - min at (length xs) = omega arith in
    rw (e, p) (part-clipped xs at n)

pub ruleset parts = (rules, part_cut)

-- a number past the end, and one in the book
pub number_past : (xs : List ℕ) (at : ℕ) → length xs < at → 0 ≡ number xs at
unfolding number little
number_past xs at h = rw (drop_of_length-le xs (le_of_lt h))

pub number_in : (xs : List ℕ) (at : ℕ) {r : ℕ} → r ≡ join false (take (min 4 4) (take (length xs - at) (drop at xs))) → r ≡ number xs at
number_in xs at e = e ∙ rw (part_end at xs) (number-joined xs at)

pub ruleset numbers = (rules, number_past, number_in)

-- a row, number by number
further : (xs : List ℕ) (s k : ℕ) → number (drop s xs) k ≡ number xs (s + k)
unfolding number
further xs s k = rw (drop-drop k s xs)

first : (xs : List ℕ) (s : ℕ) → number (drop s xs) 0 ≡ number xs s
unfolding number
first xs s = refl

pub row_read : (xs : List ℕ) (i : ℕ) {k a b c d : ℕ} → k ≡ i → a ≡ number xs (4 + 16 * k) → b ≡ number xs (4 + 16 * k + 4) → c ≡ number xs (4 + 16 * k + 8) → d ≡ number xs (4 + 16 * k + 12)
    → row_by (record { name = a; long = b; at = c; size = d }) ≡ row_at xs i
unfolding row_at row_of
row_read xs i {k} e p q r t =
    let s = 4 + 16 * k in
    let a' = p ∙ sym (first xs s) in
    let b' = q ∙ sym (further xs s 4) in
    let c' = r ∙ sym (further xs s 8) in
    let d' = t ∙ sym (further xs s 12) in
    rw (← e) (λ k. record { name_at = a' k; name_length = b' k; at = c' k; size = d' k })

-- a row's name
pub name-read : (xs : List ℕ) (i : ℕ) (r : Row) {l : List ℕ} {k : ℕ} → row_by r ≡ row_at xs i → k ≡ r.name → l ≡ part xs k r.long → l ≡ name_of xs (row_at xs i)
unfolding name_of
name-read xs i r p f e = rw (← p) (e ∙ rw f)

pub ruleset rows = (rules, row_read, name-read)
