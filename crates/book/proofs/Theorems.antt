-- The promises of books, proved.
-- Assumes nothing.
use Prim.Native.Nat.{ℕ, ◌≤◌}
use mathlib.Core.Path.{◌≡◌, refl, sym, subst, ◌∙◌}
use mathlib.Core.List.{List}
use mathlib.Core.Logic.{◌↔◌, ◌⊎◌, inl, inr}
use lib.ListN.{length, drop}
use lib.Dec.{leb}
use Rattle.format.specs.Lists.{pick}
use Rattle.format.specs.Outcome.{Outcome, fine, refused, and_then}
use Rattle.book.specs.Entries.{Entry, in_order_of}
use Rattle.book.specs.Contents.{number, rows}
use Rattle.book.specs.Written.{fitted, write}
use Rattle.book.specs.Opened.{check}
use Rattle.book.specs.Found.{find, search, pattern_at, lookup, opens_at, fetch}
use Rattle.book.specs.Sets.{Sized, Ascending, Distinct, Lacks, SameMembers, Bytes, Either}
use Rattle.book.specs.Promises.{finds, GivenBack, IsBook, Double}
use Rattle.book.proofs.Sorting.{in-order-ascending, in-order-members, in-order-fine, in-order-distinct, one-order}
use Rattle.book.proofs.Doubles.{in-order-refused}
use Rattle.book.proofs.Opening.{open-shown, open-book, open-written, sized-there, open-numbers}
use Rattle.book.proofs.Writing.{book-opens, sized_same, wrote}
use Rattle.book.proofs.Verdict
use Rattle.book.proofs.Finding as finding
use Rattle.book.proofs.Finding.{find-gives, lookup-member, lookup-missing}

-- 1. What was written is opened and gives back the same entries in order of names, and each pattern is found by its name.
pub written-gives-back : (es : List Entry) (room : ℕ) (book : List ℕ) → Sized es → write es room ≡ fine book → GivenBack es book
written-gives-back es room book s h =
    let w = wrote es room book h in
    let m = in-order-members es w.entries w.in_order in
    let a = in-order-ascending es w.entries w.in_order in
    let o : check book ≡ fine w.entries = rw w.whole at (book-opens w.entries w.numbers (sized_same es w.entries m s) a) in
    record {
      entries = w.entries;
      same-members = m;
      ascending = a;
      opens = o;
      found = λ e k. find-gives book w.entries (open-shown book w.entries o) e.name ∙ lookup-member w.entries e a ((m e).0 k);
    }

-- 2. One set of patterns has one book.
pub one-set-one-book : (es fs : List Entry) (room : ℕ) → Distinct es → Distinct fs → SameMembers es fs → write es room ≡ write fs room
unfolding write
one-set-one-book es fs room d e m =
    let s = in-order-fine es d in
    let t = in-order-fine fs e in
    let p = in-order-members es s.value s.is-fine in
    let q = in-order-members fs t.value t.is-fine in
    let same : s.value ≡ t.value =
    one-order s.value t.value (in-order-ascending es s.value s.is-fine) (in-order-ascending fs t.value t.is-fine)
    (λ x. (λ k. (q x).0 ((m x).0 ((p x).1 k)), λ k. (p x).0 ((m x).1 ((q x).1 k)))) in
    rw (s.is-fine, t.is-fine, same)

pub one-book : (a b : List ℕ) (es : List Entry) → Bytes a → Bytes b → check a ≡ fine es → check b ≡ fine es → a ≡ b
one-book a b es p q h k = open-book a es p (open-shown a es h) ∙ sym (open-book b es q (open-shown b es k))

-- 3. In an opened book, halving finds what a search through all entries finds, for every name: the pattern of the entry that has it, or 23.
pub find-is-search : (xs : List ℕ) (es : List Entry) → check xs ≡ fine es → (w : List ℕ) → (find xs w ≡ search xs w) × (finds xs w ≡ lookup w es)
find-is-search xs es h w = let o = open-shown xs es h in (finding.find-is-search xs es o w, find-gives xs es o w)

pub not_found : (xs : List ℕ) (es : List Entry) → check xs ≡ fine es → (w : List ℕ) → (finds xs w ≡ refused 23 0) ↔ Lacks w es
not_found xs es h w =
    let o = open-shown xs es h in
    let e = find-gives xs es o w in
    (λ k. finding.lookup-lacks w es 23 0 (sym e ∙ k), λ k. e ∙ lookup-missing w es k)

-- the reading of a pattern into room for it: 21 and 22, then 23, then 24
pub fetched : (xs : List ℕ) (es : List Entry) (w : List ℕ) (room : ℕ) → check xs ≡ fine es
    → fetch xs w room ≡ and_then (lookup w es) (λ p. pick (leb (length p.values) room) (fine p) (refused 24 0))
fetched xs es w room h = finding.fetch-gives xs es w room h

pub fetch-located : (xs w : List ℕ) (room : ℕ) → fetch xs w room ≡ and_then (opens_at xs w room) (λ f. fine (pattern_at xs f))
fetch-located xs w room = finding.fetch-located xs w room

-- 4. Every file opens, or is refused with 21, or with 22; it opens exactly if it is the book of its entries, and is what writing them gives.
pub opened-or-refused : (xs : List ℕ) → Either (check xs)
opened-or-refused xs = Verdict.opened-or-refused xs

pub opened-exactly : (xs : List ℕ) (es : List Entry) → Bytes xs → (check xs ≡ fine es) ↔ IsBook xs es
opened-exactly xs es b = (forth, back)
  where
    forth : check xs ≡ fine es → IsBook xs es
    forth h =
        let o = open-shown xs es h in
        record {
          sized = subst (λ (l : List Entry). Sized l) o.entries (sized-there xs (rows (number xs 0) (drop 4 xs)) o.in-file);
          ascending = o.ascending;
          numbers = open-numbers xs es b o;
          whole = sym (open-book xs es b o);
        }

    back : IsBook xs es → check xs ≡ fine es
    back k = rw k.whole at (book-opens es k.numbers k.sized k.ascending)

pub opened-is-written : (xs : List ℕ) (es : List Entry) (room : ℕ) → Bytes xs → check xs ≡ fine es → length xs ≤ room → write es room ≡ fine xs
opened-is-written xs es room b h r = open-written xs es room b (open-shown xs es h) r

-- 5. Writing: where no name stands twice it is 24 or the book; else it is 21 at the first entry whose name an earlier one has.
pub record WrittenAs (es : List Entry) (room : ℕ) : Type 0 where
  pub entries : List Entry
  pub in_order : in_order_of es ≡ fine entries
  pub same-members : SameMembers es entries
  pub ascending : Ascending entries
  pub written : write es room ≡ fitted room entries

pub distinct-written : (es : List Entry) (room : ℕ) → Distinct es → WrittenAs es room
unfolding write
distinct-written es room d =
    let s = in-order-fine es d in
    record {
      entries = s.value;
      in_order = s.is-fine;
      same-members = in-order-members es s.value s.is-fine;
      ascending = in-order-ascending es s.value s.is-fine;
      written = rw s.is-fine;
    }

pub double-refused : (es : List Entry) (room : ℕ) → Distinct es ⊎ ((p : ℕ) × Double es p × (write es room ≡ refused 21 p))
unfolding write
double-refused es room = go (in_order_of es) refl
  where
    go : (o : Outcome (List Entry)) → in_order_of es ≡ o → Distinct es ⊎ ((p : ℕ) × Double es p × (write es room ≡ refused 21 p))
    go (fine s) e = inl (in-order-distinct es s e)
    go (refused n p) e =
        let r = in-order-refused es n p e in
        inr (p, r.1, rw (e, r.0))
