-- In an opened book, halving finds what a search through all entries finds, and that is the entry's pattern.
-- Assumes nothing.
use Prim.Native.Nat.{ℕ, zero, suc, ◌+◌, ◌*◌, ◌/◌, ◌<◌, ◌≤◌}
use mathlib.Core.Path.{◌≡◌, refl, sym, ap, subst, ◌∙◌}
use mathlib.Core.Bool.{Bool, true, false}
use mathlib.Core.List.Memᴰ
use mathlib.Core.List.{List, [], ◌∷◌, map, Memᴰ}
use mathlib.Core.Logic.{◌⊎◌, inl, inr}
use native.Mathlib.Omega.{arith}
use lib.ListN.{length, drop, get_or}
use lib.Seq.{drop-drop}
use lib.Dec.{leb, ltb}
use borrow.Author.Tests.{ltb-true, ltb-false, lt-ltb, le-ltb, leb-true}
use Rattle.format.specs.Lists.{pick}
use Rattle.format.specs.Outcome.{Outcome, fine, refused, and_then}
use Rattle.laws.proofs.Outcomes.{unlike}
use Rattle.book.specs.Names.{Order, less, same, more, order, by_order}
use Rattle.book.specs.Entries.{Entry}
use Rattle.book.specs.Contents.{number, Row, row_of, rows}
use Rattle.book.specs.Opened.{in_file, name_of, entry_of, check}
use Rattle.book.specs.Found.{Found, found_by, row_at, halve, find, among, search, pattern_at, lookup, located, opens_at, fetch}
use Rattle.book.specs.Sets.{Behind, Ascending, Lacks}
use Rattle.book.proofs.Orders.{Side, before, equal, after, side, less-same, more_same, more-less, order-refl, order_same, less-more}
use Rattle.book.proofs.Sorting.{behind-at}
use Rattle.book.proofs.Numbers.{both, rows-length, rows-at}
use Rattle.book.proofs.Opening.{AllIn, Open, open-shown, part_length}

-- halving, once
pub halve-on : (xs w : List ℕ) (k low high : ℕ) → low < high
    → halve xs w (suc k) low high ≡ by_order (order w (name_of xs (row_at xs ((low + high) / 2)))) (halve xs w k low ((low + high) / 2)) (fine (found_by (row_at xs ((low + high) / 2)))) (halve xs w k (suc ((low + high) / 2)) high)
unfolding halve
halve-on xs w k low high h = rw (lt-ltb low high h)

pub halve-off : (xs w : List ℕ) (k low high : ℕ) → high ≤ low → halve xs w k low high ≡ refused 23 0
unfolding halve
halve-off xs w zero low high h = refl
halve-off xs w (suc k) low high h = rw (le-ltb low high h)

-- names of the contents that ascend
module _ (xs w : List ℕ) (n : ℕ) (asc : (i j : ℕ) → i < j → j < n → order (name_of xs (row_at xs i)) (name_of xs (row_at xs j)) ≡ less) where
  -- a name that is there stands before, at or behind another row
  there-less : (j m : ℕ) → j < n → m < n → order w (name_of xs (row_at xs j)) ≡ same → order w (name_of xs (row_at xs m)) ≡ less → j < m
  there-less j m a b s l = go (side j m)
    where
      go : Side j m → j < m
      go (before p) = p
      go (equal p) = less-same (sym l ∙ ap (λ (i : ℕ). order w (name_of xs (row_at xs i))) (sym p) ∙ s)
      go (after p) =
          let e : w ≡ name_of xs (row_at xs j) = order_same w (name_of xs (row_at xs j)) s in
          more-less (sym (less-more (name_of xs (row_at xs m)) (name_of xs (row_at xs j)) (asc m j p a)) ∙ rw e at l)

  there-more : (j m : ℕ) → j < n → m < n → order w (name_of xs (row_at xs j)) ≡ same → order w (name_of xs (row_at xs m)) ≡ more → m < j
  there-more j m a b s l = go (side j m)
    where
      go : Side j m → m < j
      go (after p) = p
      go (equal p) = more_same (sym l ∙ ap (λ (i : ℕ). order w (name_of xs (row_at xs i))) (sym p) ∙ s)
      go (before p) =
          let e : w ≡ name_of xs (row_at xs j) = order_same w (name_of xs (row_at xs j)) s in
          let k : order (name_of xs (row_at xs j)) (name_of xs (row_at xs m)) ≡ more = rw e at l in
          more-less (sym k ∙ asc j m p b)

  there-same : (j m : ℕ) → j < n → m < n → order w (name_of xs (row_at xs j)) ≡ same → order w (name_of xs (row_at xs m)) ≡ same → j ≡ m
  there-same j m a b s l = go (side j m)
    where
      go : Side j m → j ≡ m
      go (equal p) = p
      go (before p) = less-same (sym (asc j m p b) ∙ (rw (← order_same w (name_of xs (row_at xs j)) s) l))
      go (after p) = less-same (sym (asc m j p a) ∙ (rw (← order_same w (name_of xs (row_at xs m)) l) s))

  halve-finds : (j : ℕ) → order w (name_of xs (row_at xs j)) ≡ same → (k low high : ℕ) → low ≤ j → j < high → high ≤ n → high ≤ low + k
      → halve xs w k low high ≡ fine (found_by (row_at xs j))
  halve-finds j s zero low high a b c d = absurd (omega arith)
  halve-finds j s (suc k) low high a b c d =
      halve-on xs w k low high (omega arith)
      ∙ go (order w (name_of xs (row_at xs middle))) refl (λ h. halve-finds j s k low middle a h (omega arith) (omega arith)) (λ h. halve-finds j s k (suc middle) high h b c (omega arith))
    where
      middle : ℕ
      middle = (low + high) / 2

      go : (o : Order) → order w (name_of xs (row_at xs middle)) ≡ o → (j < middle → halve xs w k low middle ≡ fine (found_by (row_at xs j))) → (suc middle ≤ j → halve xs w k (suc middle) high ≡ fine (found_by (row_at xs j)))
          → by_order (order w (name_of xs (row_at xs middle))) (halve xs w k low middle) (fine (found_by (row_at xs middle))) (halve xs w k (suc middle) high) ≡ fine (found_by (row_at xs j))
      go less p left right = rw p (left (there-less j middle (omega arith) (omega arith) s p))
      go same p left right = rw p (ap {B = Outcome Found} (λ (i : ℕ). fine (found_by (row_at xs i))) (sym (there-same j middle (omega arith) (omega arith) s p)))
      go more p left right = rw p (right (there-more j middle (omega arith) (omega arith) s p))

  halve-misses : ((j : ℕ) → j < n → order w (name_of xs (row_at xs j)) ≡ same → ⊥) → (k low high : ℕ) → high ≤ n → halve xs w k low high ≡ refused 23 0
  unfolding halve
  halve-misses none zero low high c = refl
  halve-misses none (suc k) low high c = split (ltb low high) refl (halve-misses none k low ((low + high) / 2)) (halve-misses none k (suc ((low + high) / 2)) high c)
    where
      middle : ℕ
      middle = (low + high) / 2

      go : (o : Order) → order w (name_of xs (row_at xs middle)) ≡ o → middle < n → halve xs w k low middle ≡ refused 23 0 → halve xs w k (suc middle) high ≡ refused 23 0
          → by_order (order w (name_of xs (row_at xs middle))) (halve xs w k low middle) (fine (found_by (row_at xs middle))) (halve xs w k (suc middle) high) ≡ refused 23 0
      go less p m left right = rw p left
      go same p m left right = absurd (none middle m p)
      go more p m left right = rw p right

      split : (t : Bool) → ltb low high ≡ t → (middle ≤ n → halve xs w k low middle ≡ refused 23 0) → halve xs w k (suc middle) high ≡ refused 23 0 → halve xs w (suc k) low high ≡ refused 23 0
      split true p left right =
          let l = ltb-true low high p in
          halve-on xs w k low high l ∙ go (order w (name_of xs (row_at xs middle))) refl (omega arith) (left (omega arith)) right
      split false p left right = halve-off xs w (suc k) low high (ltb-false low high p)

-- what a search through all comes to
data Sought (xs w : List ℕ) (rs : List Row) (d : Row) : Type 0 where
  somewhere : (j : ℕ) → j < length rs → order w (name_of xs (get_or rs j d)) ≡ same → among xs w rs ≡ fine (found_by (get_or rs j d)) → Sought xs w rs d
  nowhere : ((j : ℕ) → j < length rs → order w (name_of xs (get_or rs j d)) ≡ same → ⊥) → among xs w rs ≡ refused 23 0 → Sought xs w rs d

sought : (xs w : List ℕ) (rs : List Row) (d : Row) → Sought xs w rs d
unfolding among
sought xs w [] d = nowhere (λ j h s. absurd (omega arith)) refl
sought xs w (r ∷ rs) d = go (order w (name_of xs r)) refl (sought xs w rs d)
  where
    missing : (o : Order) → order w (name_of xs r) ≡ o → (o ≡ same → ⊥) → ((j : ℕ) → j < length rs → order w (name_of xs (get_or rs j d)) ≡ same → ⊥)
        → (j : ℕ) → j < suc (length rs) → order w (name_of xs (get_or (r ∷ rs) j d)) ≡ same → ⊥
    missing o p q h zero l s = q (sym p ∙ s)
    missing o p q h (suc j) l s = h j (omega arith) s

    go : (o : Order) → order w (name_of xs r) ≡ o → Sought xs w rs d → Sought xs w (r ∷ rs) d
    go less p (somewhere j l s e) = somewhere (suc j) (omega arith) s (rw p e)
    go less p (nowhere h e) = nowhere (missing less p less-same h) (rw p e)
    go same p k = somewhere 0 (omega arith) p (rw p)
    go more p (somewhere j l s e) = somewhere (suc j) (omega arith) s (rw p e)
    go more p (nowhere h e) = nowhere (missing more p more_same h) (rw p e)

-- ascending entries, by the rows' numbers
rows_behind : (xs n : List ℕ) (rs : List Row) (d : Row) (j : ℕ) → Behind n (map (entry_of xs) rs) → j < length rs → order n (name_of xs (get_or rs j d)) ≡ less
unfolding entry_of
rows_behind xs n [] d j b h = absurd (omega arith)
rows_behind xs n (r ∷ rs) d zero b h = b.0
rows_behind xs n (r ∷ rs) d (suc j) b h = rows_behind xs n rs d j b.1 (omega arith)

rows-ascend : (xs : List ℕ) (rs : List Row) (d : Row) (i j : ℕ) → Ascending (map (entry_of xs) rs) → i < j → j < length rs → order (name_of xs (get_or rs i d)) (name_of xs (get_or rs j d)) ≡ less
unfolding entry_of
rows-ascend xs [] d i j a h l = absurd (omega arith)
rows-ascend xs (r ∷ rs) d zero zero a h l = absurd (omega arith)
rows-ascend xs (r ∷ rs) d zero (suc j) a h l = rows_behind xs (name_of xs r) rs d j a.0 (omega arith)
rows-ascend xs (r ∷ rs) d (suc i) zero a h l = absurd (omega arith)
rows-ascend xs (r ∷ rs) d (suc i) (suc j) a h l = rows-ascend xs rs d i j a.1 (omega arith) (omega arith)

-- in an opened book
module _ (xs : List ℕ) (es : List Entry) (o : Open xs es) where
  all : List Row
  all = rows (number xs 0) (drop 4 xs)

  a-row : Row
  a-row = row_of []

  the_row : (i : ℕ) → i < number xs 0 → get_or all i a-row ≡ row_at xs i
  unfolding all row_at
  the_row i h = rows-at (number xs 0) (drop 4 xs) a-row i h ∙ ap row_of (drop-drop (16 * i) 4 xs)

  names-ascend : (i j : ℕ) → i < j → j < number xs 0 → order (name_of xs (row_at xs i)) (name_of xs (row_at xs j)) ≡ less
  unfolding all
  names-ascend i j h l =
      let a : Ascending (map (entry_of xs) all) = subst (λ (z : List Entry). Ascending z) (sym o.entries) o.ascending in
      let k : j < length all = omega (arith, rows-length (number xs 0) (drop 4 xs)) in
      rw (← the_row i (omega arith), ← the_row j l) (rows-ascend xs all a-row i j a h k)

  pub find-is-search : (w : List ℕ) → find xs w ≡ search xs w
  unfolding find search all
  find-is-search w = go (sought xs w all a-row)
    where
      n : ℕ
      n = number xs 0

      go : Sought xs w all a-row → halve xs w n 0 n ≡ among xs w all
      go (somewhere j l s e) =
          let k : j < n = omega (arith, rows-length n (drop 4 xs)) in
          let r = the_row j k in
          halve-finds xs w n names-ascend j (rw r at s) n 0 n (omega arith) k (omega arith) (omega arith)
          ∙ sym (e ∙ ap {B = Outcome Found} (λ (z : Row). fine (found_by z)) r)
      go (nowhere h e) =
          halve-misses xs w n names-ascend
          (λ j k s. h j (omega (arith, rows-length n (drop 4 xs))) (rw (the_row j k) s)) n 0 n (omega arith)
          ∙ sym e

-- the pattern found is the entry's
pattern-of : (xs w : List ℕ) (rs : List Row) → and_then (among xs w rs) (λ f. fine (pattern_at xs f)) ≡ lookup w (map (entry_of xs) rs)
unfolding among lookup pattern_at found_by entry_of
pattern-of xs w [] = refl
pattern-of xs w (r ∷ rs) = go (order w (name_of xs r)) refl (pattern-of xs w rs)
  where
    go : (o : Order) → order w (name_of xs r) ≡ o → and_then (among xs w rs) (λ f. fine (pattern_at xs f)) ≡ lookup w (map (entry_of xs) rs)
        → and_then (among xs w (r ∷ rs)) (λ f. fine (pattern_at xs f)) ≡ lookup w (map (entry_of xs) (r ∷ rs))
    go less p below = rw p below
    go same p below = rw p
    go more p below = rw p below

-- and its size is the number of its values
room_of : (xs w : List ℕ) (room : ℕ) (rs : List Row) → AllIn xs rs
    → and_then (among xs w rs) (λ f. pick (leb f.size room) (fine (pattern_at xs f)) (refused 24 0))
    ≡ and_then (lookup w (map (entry_of xs) rs)) (λ p. pick (leb (length p.values) room) (fine p) (refused 24 0))
unfolding among lookup pattern_at found_by entry_of in_file
room_of xs w room [] a = refl
room_of xs w room (r ∷ rs) a = go (order w (name_of xs r)) refl (room_of xs w room rs a.1)
  where
    go : (o : Order) → order w (name_of xs r) ≡ o
        → and_then (among xs w rs) (λ f. pick (leb f.size room) (fine (pattern_at xs f)) (refused 24 0)) ≡ and_then (lookup w (map (entry_of xs) rs)) (λ p. pick (leb (length p.values) room) (fine p) (refused 24 0))
        → and_then (among xs w (r ∷ rs)) (λ f. pick (leb f.size room) (fine (pattern_at xs f)) (refused 24 0)) ≡ and_then (lookup w (map (entry_of xs) (r ∷ rs))) (λ p. pick (leb (length p.values) room) (fine p) (refused 24 0))
    go less p below = rw p below
    go same p below =
        let u = both (leb (r.name_at + r.name_length) (length xs)) (leb (r.at + 2 * r.size) (length xs)) a.0 in
        let b = leb-true (r.at + 2 * r.size) (length xs) u.1 in
        rw (p, part_length xs r.at r.size (omega arith))
    go more p below = rw p below

pub find-gives : (xs : List ℕ) (es : List Entry) (o : Open xs es) (w : List ℕ) → and_then (find xs w) (λ f. fine (pattern_at xs f)) ≡ lookup w es
unfolding search
find-gives xs es o w =
    rw (find-is-search xs es o w) (pattern-of xs w (rows (number xs 0) (drop 4 xs)) ∙ ap (lookup w) o.entries)

pub fetch-gives : (xs : List ℕ) (es : List Entry) (w : List ℕ) (room : ℕ) → check xs ≡ fine es
    → fetch xs w room ≡ and_then (lookup w es) (λ p. pick (leb (length p.values) room) (fine p) (refused 24 0))
unfolding fetch search
fetch-gives xs es w room h =
    let o = open-shown xs es h in
    rw (h, find-is-search xs es o w, ← o.entries) (room_of xs w room (rows (number xs 0) (drop 4 xs)) o.in-file)

-- a pattern is what stands where it is located
pub fetch-located : (xs w : List ℕ) (room : ℕ) → fetch xs w room ≡ and_then (opens_at xs w room) (λ f. fine (pattern_at xs f))
unfolding fetch opens_at located
fetch-located xs w room = go (check xs) (find xs w)
  where
    inner : (t : Bool) (f : Found) → pick t (fine (pattern_at xs f)) (refused 24 0) ≡ and_then (pick t (fine f) (refused 24 0)) (λ f. fine (pattern_at xs f))
    inner true f = refl
    inner false f = refl

    go : (o : Outcome (List Entry)) (u : Outcome Found)
        → and_then o (λ es. and_then u (λ f. pick (leb f.size room) (fine (pattern_at xs f)) (refused 24 0)))
        ≡ and_then (and_then o (λ es. and_then u (λ f. pick (leb f.size room) (fine f) (refused 24 0)))) (λ f. fine (pattern_at xs f))
    go (fine es) (fine f) = inner (leb f.size room) f
    go (fine es) (refused n p) = refl
    go (refused n p) u = refl

-- among entries in order, a name's pattern is that of the entry that has it
pub lookup-member : (es : List Entry) (e : Entry) → Ascending es → Memᴰ e es → lookup e.name es ≡ fine (record { values = e.values; masks = e.masks })
unfolding lookup
lookup-member [] e a m = absurd (Memᴰ.not-nil m)
lookup-member (f ∷ fs) e a m = go (Memᴰ.cases_cons m) (lookup-member fs e a.1)
  where
    go : (e ≡ f) ⊎ Memᴰ e fs → (Memᴰ e fs → lookup e.name fs ≡ fine (record { values = e.values; masks = e.masks })) → lookup e.name (f ∷ fs) ≡ fine (record { values = e.values; masks = e.masks })
    go (inl p) below = rw (p, order-refl f.name)
    go (inr p) below = rw (less-more f.name e.name (behind-at f.name fs e a.0 p)) (below p)

-- and 23 is given exactly for a name that no entry has
pub lookup-missing : (w : List ℕ) (es : List Entry) → Lacks w es → lookup w es ≡ refused 23 0
unfolding lookup
lookup-missing w [] l = refl
lookup-missing w (e ∷ es) l = go (order w e.name) refl (lookup-missing w es l.1)
  where
    go : (o : Order) → order w e.name ≡ o → lookup w es ≡ refused 23 0 → lookup w (e ∷ es) ≡ refused 23 0
    go less p below = rw p below
    go same p below = absurd (l.0 (order_same w e.name p))
    go more p below = rw p below

pub lookup-lacks : (w : List ℕ) (es : List Entry) (n p : ℕ) → lookup w es ≡ refused n p → Lacks w es
unfolding lookup
lookup-lacks w [] n p h = tt
lookup-lacks w (e ∷ es) n p h = go (order w e.name) refl (lookup-lacks w es n p)
  where
    go : (o : Order) → order w e.name ≡ o → (lookup w es ≡ refused n p → Lacks w es) → Lacks w (e ∷ es)
    go less q below = ((λ s. less-same (sym q ∙ (rw s (order-refl e.name)))), below (rw q at h))
    go same q below = unlike n p _ (sym (rw q at h))
    go more q below = ((λ s. more_same (sym q ∙ (rw s (order-refl e.name)))), below (rw q at h))
