-- The numbers of entries in order of names: they tell the entries in order, and putting in order keeps the sum of the bodies.
-- Assumes nothing.
use Prim.Native.Nat.{ℕ, zero, suc, ◌+◌}
use mathlib.Core.Path.{◌≡◌, refl, sym, ap, ◌∙◌}
use mathlib.Core.List.{List, [], ◌∷◌, map}
use native.Mathlib.Omega.{arith}
use lib.ListN.{length, length-append}
use Rattle.format.specs.Lists.{flat}
use Rattle.format.specs.Outcome.{Outcome, fine, refused, and_then}
use Rattle.laws.proofs.Outcomes.{chain}
use Rattle.book.specs.Names.{Order, less, same, more, order}
use Rattle.book.specs.Entries.{Entry, body, insert, insert_all, in_order_of}
use Rattle.book.specs.Given.{entry_at, given, put_number, numbers_of}
use Rattle.book.proofs.Sorting.{inside, Went, went, first, later}

-- putting a number in puts its entry in
put-tells : (p r : List ℕ) (k : ℕ) (js : List ℕ) (gs : List Entry) → insert k (entry_at p r k) (map (entry_at p r) js) ≡ fine gs → map (entry_at p r) (put_number p r k js) ≡ gs
unfolding insert put_number
put-tells p r k [] gs h = inside (entry_at p r k ∷ []) gs h
put-tells p r k (j ∷ js) gs h = go (went k (entry_at p r k) (entry_at p r j) (map (entry_at p r) js) gs h) (put-tells p r k js)
  where
    go : Went k (entry_at p r k) (entry_at p r j) (map (entry_at p r) js) gs
        → ((hs : List Entry) → insert k (entry_at p r k) (map (entry_at p r) js) ≡ fine hs → map (entry_at p r) (put_number p r k js) ≡ hs)
        → map (entry_at p r) (put_number p r k (j ∷ js)) ≡ gs
    go (first e q) below = rw e q
    go (later hs e q t) below = rw e (ap (λ (l : List Entry). entry_at p r j ∷ l) (below hs q) ∙ t)

all_tell : (p r : List ℕ) (k m : ℕ) (fs : List Entry) → insert_all k (map (entry_at p r) (numbers_of p r k)) (given p r k m) ≡ fine fs → map (entry_at p r) (numbers_of p r (k + m)) ≡ fs
unfolding insert_all given numbers_of
all_tell p r k zero fs h = let z : k + 0 ≡ k = omega arith in rw z (inside _ _ h)
all_tell p r k (suc m) fs h =
    let E = entry_at p r in
    let c = chain (insert k (E k) (map E (numbers_of p r k))) (λ d. insert_all (suc k) d (given p r (suc k) m)) fs h in
    let d = put-tells p r k (numbers_of p r k) c.value c.first in
    let z : k + suc m ≡ suc k + m = omega arith in
    rw z (all_tell p r (suc k) m fs (rw (← d) at c.second))

-- the entries in order are those that the numbers tell
pub numbers-tell : (p r : List ℕ) (n : ℕ) (fs : List Entry) → in_order_of (given p r 0 n) ≡ fine fs → map (entry_at p r) (numbers_of p r n) ≡ fs
unfolding in_order_of numbers_of
numbers-tell p r n fs h = let z : 0 + n ≡ n = omega arith in rw z at (all_tell p r 0 n fs h)

put-longer : (p r : List ℕ) (k : ℕ) (js : List ℕ) → length (put_number p r k js) ≡ suc (length js)
unfolding put_number
put-longer p r k [] = refl
put-longer p r k (j ∷ js) = go (order (entry_at p r k).name (entry_at p r j).name) refl (put-longer p r k js)
  where
    go : (o : Order) → order (entry_at p r k).name (entry_at p r j).name ≡ o → length (put_number p r k js) ≡ suc (length js) → length (put_number p r k (j ∷ js)) ≡ suc (suc (length js))
    go less e below = rw e
    go same e below = rw e
    go more e below = rw e (ap suc below)

-- there are as many numbers as entries
pub numbers-long : (p r : List ℕ) (n : ℕ) → length (numbers_of p r n) ≡ n
unfolding numbers_of
numbers-long p r zero = refl
numbers-long p r (suc n) = put-longer p r n (numbers_of p r n) ∙ ap suc (numbers-long p r n)

insert-sum : (k : ℕ) (e : Entry) (fs gs : List Entry) → insert k e fs ≡ fine gs → length (flat body gs) ≡ length (body e) + length (flat body fs)
unfolding insert flat
insert-sum k e [] gs h = rw (← inside (e ∷ []) gs h, length-append) refl
insert-sum k e (f ∷ fs) gs h = go (went k e f fs gs h) (insert-sum k e fs)
  where
    go : Went k e f fs gs → ((hs : List Entry) → insert k e fs ≡ fine hs → length (flat body hs) ≡ length (body e) + length (flat body fs)) → length (flat body gs) ≡ length (body e) + length (flat body (f ∷ fs))
    go (first p q) below = rw (← q) (length-append (body e) (flat body (f ∷ fs)))
    go (later hs p q r) below = rw (← r) (omega (arith, length-append (body f) (flat body hs), length-append (body f) (flat body fs), below hs q))

all-sum : (k : ℕ) (done es fs : List Entry) → insert_all k done es ≡ fine fs → length (flat body fs) ≡ length (flat body done) + length (flat body es)
unfolding insert_all flat
all-sum k done [] fs h = rw (inside done fs h) (omega arith)
all-sum k done (e ∷ es) fs h =
    let c = chain (insert k e done) (λ d. insert_all (suc k) d es) fs h in
    omega (arith, all-sum (suc k) c.value es fs c.second, insert-sum k e done c.value c.first, length-append (body e) (flat body es))

-- entries in order have as many bytes as they had before
pub bodies_kept : (es fs : List Entry) → in_order_of es ≡ fine fs → length (flat body fs) ≡ length (flat body es)
unfolding in_order_of flat
bodies_kept es fs h = all-sum 0 [] es fs h ∙ omega arith
