-- A file that opens is the book of its entries, which are in order of names; a file that does not is refused with 21 or 22.
-- Assumes nothing.
use Prim.Native.Nat.{ℕ, ◌+◌, ◌*◌, ◌≤◌}
use mathlib.Core.Path.{◌≡◌, refl, sym, ap, subst, ◌∙◌}
use mathlib.Core.Bool.{true, false, ◌&&◌}
use mathlib.Core.List.{List, [], ◌∷◌, ◌++◌, map, append_assoc}
use mathlib.Core.Option.{Option, none, some}
use native.Mathlib.Omega.{arith}
use lib.ListN.{length, take, drop, length-drop, length-take, length-append, take-append-drop, length-map}
use lib.Seq.{drop-drop, drop-length}
use lib.Dec.{eqb, leb}
use borrow.Author.Tests.{leb-true, eqb-true, le-leb}
use Rattle.format.specs.Lists.{flat}
use Rattle.format.specs.Outcome.{Outcome, fine}
use Rattle.laws.proofs.Outcomes.{chain, follow, passed}
use Rattle.book.specs.Names.{Order, less, same, more, order, by_order}
use Rattle.book.specs.Entries.{Entry, body, in_order_of}
use Rattle.book.specs.Contents.{four, number, part, Row, row_bytes, rows, start, row_for, rows_for, is_small, small_rows}
use Rattle.book.specs.Written.{book_of, numbers_fit_of, fitted, write}
use Rattle.book.specs.Opened.{counted, in_file, name_of, entry_of, behind, ordered, closed, ended, opened, check}
use Rattle.book.specs.Sets.{Behind, Ascending, Sized, Bytes}
use Rattle.book.proofs.Sorting.{inside, behind-trans, in-order-itself}
use Rattle.book.proofs.Numbers.{both, bytes_drop, four-number, small-number, rows_written, rows-small, rows-length}

-- each row's name and pattern lie in the file
abbrev pub AllIn : List ℕ → List Row → Type 0
AllIn xs [] = Unit {0}
AllIn xs (r ∷ rs) = (in_file xs r ≡ true) × AllIn xs rs

-- behind a name, if there is one
abbrev BehindLast : Option (List ℕ) → List Entry → Type 0
BehindLast none es = Unit {0}
BehindLast (some a) es = Behind a es

-- what the first pass has shown
record Passed (xs : List ℕ) (last : Option (List ℕ)) (rs : List Row) (es : List Entry) : Type 0 where
  in-file : AllIn xs rs
  entries : map (entry_of xs) rs ≡ es
  ascending : Ascending es
  behind-last : BehindLast last es

before-true : (o : Order) → by_order o true false false ≡ true → o ≡ less
before-true less h = refl
before-true same h = let z : ◌≡◌ {A = ℕ} 0 1 = cc in let y : ⊥ = omega arith in absurd y
before-true more h = let z : ◌≡◌ {A = ℕ} 0 1 = cc in let y : ⊥ = omega arith in absurd y

last-behind : (last : Option (List ℕ)) (e : Entry) (es : List Entry) → behind last e.name ≡ true → Behind e.name es → BehindLast last (e ∷ es)
last-behind none e es h b = tt
last-behind (some a) e es h b =
    let l : order a e.name ≡ less = before-true (order a e.name) h in
    (l, behind-trans a e.name es l b)

ordered-passed : (xs : List ℕ) (place : ℕ) (last : Option (List ℕ)) (rs : List Row) (es : List Entry) → ordered xs place last rs ≡ fine es → Passed xs last rs es
unfolding ordered entry_of
ordered-passed xs place last [] es h = go last (inside [] es h)
  where
    go : (l : Option (List ℕ)) → [] ≡ es → Passed xs l [] es
    go none p = record { in-file = tt; entries = p; ascending = subst (λ (l : List Entry). Ascending l) p tt; behind-last = tt }
    go (some a) p = record { in-file = tt; entries = p; ascending = subst (λ (l : List Entry). Ascending l) p tt; behind-last = subst (λ (l : List Entry). Behind a l) p tt }
ordered-passed xs place last (r ∷ rs) es h =
    let t = passed (in_file xs r && behind last (name_of xs r)) _ 21 place es h in
    let u = both (in_file xs r) (behind last (name_of xs r)) t.0 in
    let c = chain (ordered xs (place + 16) (some (name_of xs r)) rs) (λ fs. fine (entry_of xs r ∷ fs)) es t.1 in
    go c.value u.0 u.1 (inside (entry_of xs r ∷ c.value) es c.second) (ordered-passed xs (place + 16) (some (name_of xs r)) rs c.value c.first)
  where
    go : (fs : List Entry) → in_file xs r ≡ true → behind last (name_of xs r) ≡ true → entry_of xs r ∷ fs ≡ es → Passed xs (some (name_of xs r)) rs fs → Passed xs last (r ∷ rs) es
    go fs i b p k = record {
      in-file = (i, k.in-file);
      entries = ap (λ (l : List Entry). entry_of xs r ∷ l) k.entries ∙ p;
      ascending = subst (λ (l : List Entry). Ascending l) p (k.behind-last, k.ascending);
      behind-last = subst (λ (l : List Entry). BehindLast last l) p (last-behind last (entry_of xs r) fs b k.behind-last);
    }

-- a part, and what stands behind it
part-drop : (xs : List ℕ) (a n : ℕ) → part xs a n ++ drop (a + n) xs ≡ drop a xs
unfolding part
part-drop xs a n = rw (← drop-drop n a xs) (take-append-drop n (drop a xs))

pub part_length : (xs : List ℕ) (a n : ℕ) → a + n ≤ length xs → length (part xs a n) ≡ n
unfolding part
part_length xs a n h = length-take n (drop a xs) ∙ (let e = length-drop a xs in omega arith)

body-there : (xs : List ℕ) (r : Row) → r.at ≡ r.name_at + r.name_length → body (entry_of xs r) ++ drop (r.at + 2 * r.size) xs ≡ drop r.name_at xs
unfolding body entry_of name_of
body-there xs r h =
    let e : r.at + 2 * r.size ≡ (r.at + r.size) + r.size = omega arith in
    let n = part xs r.name_at r.name_length in
    let v = part xs r.at r.size in
    let m = part xs (r.at + r.size) r.size in
    let d = drop (r.at + r.size + r.size) xs in
    rw (e, append_assoc (n ++ v) m d, append_assoc n v (m ++ d), part-drop xs (r.at + r.size) r.size, part-drop xs r.at r.size, h)
    (part-drop xs r.name_at r.name_length)

row-there : (xs : List ℕ) (r : Row) → in_file xs r ≡ true → r.at ≡ r.name_at + r.name_length → r ≡ row_for r.name_at (entry_of xs r)
unfolding in_file row_for entry_of name_of
row-there xs r i h =
    let u = both (leb (r.name_at + r.name_length) (length xs)) (leb (r.at + 2 * r.size) (length xs)) i in
    let a = leb-true (r.name_at + r.name_length) (length xs) u.0 in
    let b = leb-true (r.at + 2 * r.size) (length xs) u.1 in
    let p = part_length xs r.name_at r.name_length a in
    let q = part_length xs r.at r.size (omega arith) in
    let s : r.at ≡ r.name_at + length (part xs r.name_at r.name_length) = rw p h in
    λ k. record { name_at = r.name_at; name_length = sym p k; at = s k; size = sym q k }

body-length : (xs : List ℕ) (r : Row) → in_file xs r ≡ true → r.at ≡ r.name_at + r.name_length → r.name_at + length (body (entry_of xs r)) ≡ r.at + 2 * r.size
unfolding in_file body entry_of name_of
body-length xs r i h =
    let u = both (leb (r.name_at + r.name_length) (length xs)) (leb (r.at + 2 * r.size) (length xs)) i in
    let a = leb-true (r.name_at + r.name_length) (length xs) u.0 in
    let b = leb-true (r.at + 2 * r.size) (length xs) u.1 in
    let p = part_length xs r.name_at r.name_length a in
    let q = part_length xs r.at r.size (omega arith) in
    let s = part_length xs (r.at + r.size) r.size (omega arith) in
    rw (length-append, length-append, p, q, s) (omega arith)

-- a mask for each value
pub sized-there : (xs : List ℕ) (rs : List Row) → AllIn xs rs → Sized (map (entry_of xs) rs)
unfolding entry_of in_file
sized-there xs [] a = tt
sized-there xs (r ∷ rs) a =
    let u = both (leb (r.name_at + r.name_length) (length xs)) (leb (r.at + 2 * r.size) (length xs)) a.0 in
    let b = leb-true (r.at + 2 * r.size) (length xs) u.1 in
    (part_length xs (r.at + r.size) r.size (omega arith) ∙ sym (part_length xs r.at r.size (omega arith)), sized-there xs rs a.1)

-- what the second pass has shown
record Lies (xs : List ℕ) (at : ℕ) (rs : List Row) : Type 0 where
  bodies : drop at xs ≡ flat body (map (entry_of xs) rs)
  their-rows : rs ≡ rows_for at (map (entry_of xs) rs)

closed-lies : (xs : List ℕ) (place at : ℕ) (rs : List Row) → AllIn xs rs → closed place at rs ≡ fine (length xs) → Lies xs at rs
unfolding closed flat rows_for
closed-lies xs place at [] a h = record { bodies = rw (inside at (length xs) h) (drop-length xs); their-rows = refl }
closed-lies xs place at (r ∷ rs) a h =
    let t = passed (eqb r.name_at at && eqb r.at (at + r.name_length)) (closed (place + 16) (r.at + 2 * r.size) rs) 22 place (length xs) h in
    let u = both (eqb r.name_at at) (eqb r.at (at + r.name_length)) t.0 in
    let p : r.name_at ≡ at = eqb-true r.name_at at u.0 in
    let q : r.at ≡ r.name_at + r.name_length = rw p (eqb-true r.at (at + r.name_length) u.1) in
    let k = closed-lies xs (place + 16) (r.at + 2 * r.size) rs a.1 t.1 in
    let l = body-length xs r a.0 q in
    record {
      bodies = rw (← p) (sym (body-there xs r q) ∙ ap (λ (z : List ℕ). body (entry_of xs r) ++ z) k.bodies);
      their-rows = rw (← p) (
          ap (λ (z : Row). z ∷ rs) (row-there xs r a.0 q)
          ∙ ap (λ (z : List Row). row_for r.name_at (entry_of xs r) ∷ z) (k.their-rows ∙ ap (λ (z : ℕ). rows_for z (map (entry_of xs) rs)) (sym l)));
    }

-- what opening has shown
pub record Open (xs : List ℕ) (es : List Entry) : Type 0 where
  pub room : start (number xs 0) ≤ length xs
  pub in-file : AllIn xs (rows (number xs 0) (drop 4 xs))
  pub entries : map (entry_of xs) (rows (number xs 0) (drop 4 xs)) ≡ es
  pub ascending : Ascending es
  pub bodies : drop (start (number xs 0)) xs ≡ flat body es
  pub their-rows : rows (number xs 0) (drop 4 xs) ≡ rows_for (start (number xs 0)) es

pub open-shown : (xs : List ℕ) (es : List Entry) → check xs ≡ fine es → Open xs es
unfolding check counted opened ended
open-shown xs es h =
    let c = chain (counted xs) (opened xs) es h in
    let t = passed (leb (start (number xs 0)) (length xs)) (fine (number xs 0)) 21 0 c.value c.first in
    let n : number xs 0 ≡ c.value = inside (number xs 0) c.value t.1 in
    go (leb-true (start (number xs 0)) (length xs) t.0) (rw (← n) at c.second)
  where
    go : start (number xs 0) ≤ length xs → opened xs (number xs 0) ≡ fine es → Open xs es
    go r o =
        let rs = rows (number xs 0) (drop 4 xs) in
        let c = chain (ordered xs 4 none rs) _ es o in
        let d = chain (closed 4 (start (number xs 0)) rs) _ es c.second in
        let e = chain (ended xs d.value) _ es d.second in
        let t = passed (eqb d.value (length xs)) (fine d.value) 22 d.value e.value e.first in
        let same : d.value ≡ length xs = eqb-true d.value (length xs) t.0 in
        let k = ordered-passed xs 4 none rs c.value c.first in
        let f : c.value ≡ es = inside c.value es e.second in
        let l = closed-lies xs 4 (start (number xs 0)) rs k.in-file (rw same at d.first) in
        let m : map (entry_of xs) rs ≡ es = k.entries ∙ f in
        record {
          room = r;
          in-file = k.in-file;
          entries = m;
          ascending = subst (λ (z : List Entry). Ascending z) f k.ascending;
          bodies = l.bodies ∙ ap (flat body) m;
          their-rows = l.their-rows ∙ ap (rows_for (start (number xs 0))) m;
        }

pub open-count : (xs : List ℕ) (es : List Entry) → Open xs es → length es ≡ number xs 0
open-count xs es o = ap length (sym o.entries) ∙ (length-map (rows (number xs 0) (drop 4 xs)) (entry_of xs) ∙ rows-length (number xs 0) (drop 4 xs))

-- an opened file is the book of its entries
pub open-book : (xs : List ℕ) (es : List Entry) → Bytes xs → Open xs es → xs ≡ book_of es
unfolding book_of
open-book xs es b o =
    let n = number xs 0 in
    let p : four n ≡ take 4 xs = four-number xs 0 b (omega (arith, o.room)) in
    let q : flat row_bytes (rows n (drop 4 xs)) ≡ take (16 * n) (drop 4 xs) = rows_written n (drop 4 xs) (bytes_drop 4 xs b) (omega (arith, o.room, length-drop 4 xs)) in
    rw (open-count xs es o, ← o.their-rows, ← o.bodies, p, q, ← drop-drop (16 * n) 4 xs, append_assoc, take-append-drop (16 * n) (drop 4 xs))
    (sym (take-append-drop 4 xs))

-- its numbers have four bytes
pub open-numbers : (xs : List ℕ) (es : List Entry) → Bytes xs → Open xs es → numbers_fit_of es ≡ true
unfolding numbers_fit_of
open-numbers xs es b o =
    let p : is_small (length es) ≡ true = rw (open-count xs es o) (small-number xs 0 b) in
    let q : small_rows (rows_for (start (length es)) es) ≡ true = rw (open-count xs es o, ← o.their-rows) (rows-small (number xs 0) (drop 4 xs) (bytes_drop 4 xs b)) in
    rw (p, q)

-- and it is written so
pub open-written : (xs : List ℕ) (es : List Entry) (room : ℕ) → Bytes xs → Open xs es → length xs ≤ room → write es room ≡ fine xs
unfolding write fitted
open-written xs es room b o h =
    let same : book_of es ≡ xs = sym (open-book xs es b o) in
    let r : leb (length (book_of es)) room ≡ true = rw same (le-leb (length xs) room h) in
    follow (in_order_of es) (fitted room) (in-order-itself es o.ascending) (rw (open-numbers xs es b o, r) (ap {B = Outcome (List ℕ)} fine same))

-- an opened file has as many entries as its first number says
pub opened-long : (xs : List ℕ) (es : List Entry) → check xs ≡ fine es → length es ≡ number xs 0
opened-long xs es h = open-count xs es (open-shown xs es h)
