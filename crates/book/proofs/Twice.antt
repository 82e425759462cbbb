-- Entries given, tested for a name that an earlier one has, without putting them in order.
-- Assumes nothing.
use Prim.Native.Nat.{ℕ, zero, suc, ◌+◌, ◌-◌, ◌<◌, ◌≤◌}
use mathlib.Core.Path.{◌≡◌, refl, sym, ap, ◌∙◌}
use mathlib.Core.Bool.{Bool, true, false}
use mathlib.Core.List.Memᴰ
use mathlib.Core.List.{List, [], ◌∷◌, Memᴰ}
use mathlib.Core.Logic.{◌⊎◌, inl, inr}
use native.Mathlib.Omega.{arith}
use native.Mathlib.Numerals.{add-one}
use lib.Dec.{ltb}
use borrow.Author.Tests.{ltb-true, ltb-false}
use Rattle.format.specs.Outcome.{fine, refused}
use Rattle.laws.proofs.Outcomes.{Fine}
use Rattle.book.specs.Names.{Order, less, same, more, order}
use Rattle.book.specs.Entries.{Entry, insert, insert_all, in_order_of}
use Rattle.book.specs.Given.{entry_at, given, seen}
use Rattle.book.specs.Sets.{Ascending, Lacks}
use Rattle.book.specs.Steps.{silent}
use Rattle.book.proofs.Orders.{order_same, order-refl}
use Rattle.book.proofs.Sorting.{lacks-at, lacks-all, insert-from, insert-old, insert-new, insert-fine, insert-lacks, insert-ascending}
use Rattle.book.proofs.Doubles.{Which, which, is-fine, is-refused, not_in}

-- a name among those of the first n entries stays there
seen-later : (p r : List ℕ) (k n d : ℕ) → seen p r k n ≡ true → seen p r k (n + d) ≡ true
unfolding seen
seen-later p r k n zero h = let z : n + 0 ≡ n = omega arith in rw z h
seen-later p r k n (suc d) h = go (order (entry_at p r k).name (entry_at p r (n + d)).name) refl (seen-later p r k n d h)
  where
    next : n + suc d ≡ suc (n + d)
    next = omega arith

    go : (o : Order) → order (entry_at p r k).name (entry_at p r (n + d)).name ≡ o → seen p r k (n + d) ≡ true → seen p r k (n + suc d) ≡ true
    go less e b = rw (next, e) b
    go same e b = rw (next, e)
    go more e b = rw (next, e) b

-- 1. the loop over the entries before the k-th: none of the first i has its name
pub record Unseen (p r : List ℕ) (k i : ℕ) : Type 0 where
  pub within : i ≤ k
  pub none : seen p r k i ≡ false

pub unseen-start : (p r : List ℕ) (k : ℕ) → Unseen p r k 0
unfolding seen
unseen-start p r k = record { within = omega arith; none = refl }

module _ {p r : List ℕ} {k i : ℕ} (w : Unseen p r k i) where
  pub unseen-end : k ≤ i → false ≡ seen p r k k
  unseen-end h = let b = w.within in let z : i ≡ k = omega arith in sym (rw z at w.none)

  pub unseen-less : i < k → order (entry_at p r k).name (entry_at p r i).name ≡ less → Unseen p r k (i + 1)
  unfolding seen
  unseen-less h e = record { within = omega arith; none = rw (add-one, e) w.none }

  pub unseen-more : i < k → order (entry_at p r k).name (entry_at p r i).name ≡ more → Unseen p r k (i + 1)
  unfolding seen
  unseen-more h e = record { within = omega arith; none = rw (add-one, e) w.none }

  pub unseen_same : i < k → order (entry_at p r k).name (entry_at p r i).name ≡ same → true ≡ seen p r k k
  unfolding seen
  unseen_same h e =
      let z : suc i + (k - suc i) ≡ k = omega arith in
      let t : seen p r k (suc i) ≡ true = rw e in
      sym (rw z at (seen-later p r k (suc i) (k - suc i) t))

-- what a test tells
record Earlier (p r : List ℕ) (k n : ℕ) : Type 0 where
  number : ℕ
  before : number < n
  one_name : (entry_at p r k).name ≡ (entry_at p r number).name

seen-there : (p r : List ℕ) (k n : ℕ) → seen p r k n ≡ true → Earlier p r k n
unfolding seen
seen-there p r k zero h = let z : ◌≡◌ {A = ℕ} 0 1 = cc in absurd (omega arith)
seen-there p r k (suc n) h = go (order (entry_at p r k).name (entry_at p r n).name) refl (seen-there p r k n)
  where
    up : Earlier p r k n → Earlier p r k (suc n)
    up e = let b = e.before in record { number = e.number; before = omega arith; one_name = e.one_name }

    go : (o : Order) → order (entry_at p r k).name (entry_at p r n).name ≡ o → (seen p r k n ≡ true → Earlier p r k n) → Earlier p r k (suc n)
    go less e below = up (below (rw e at h))
    go same e below = record { number = n; before = omega arith; one_name = order_same (entry_at p r k).name (entry_at p r n).name e }
    go more e below = up (below (rw e at h))

unseen-other : (p r : List ℕ) (k n j : ℕ) → seen p r k n ≡ false → j < n → (entry_at p r k).name ≡ (entry_at p r j).name → ⊥
unfolding seen
unseen-other p r k n j h b e =
    let z : suc j + (n - suc j) ≡ n = omega arith in
    let s : order (entry_at p r k).name (entry_at p r j).name ≡ same = rw e (order-refl (entry_at p r j).name) in
    let t : seen p r k (suc j) ≡ true = rw s in
    let u : seen p r k n ≡ true = rw z at (seen-later p r k (suc j) (n - suc j) t) in
    let v : true ≡ false = sym u ∙ h in
    let y : ◌≡◌ {A = ℕ} 0 1 = cc in
    omega arith

-- an entry whose name is there is refused
insert-double : (k : ℕ) (e x : Entry) (fs : List Entry) → Ascending fs → Memᴰ x fs → e.name ≡ x.name → insert k e fs ≡ refused 21 k
insert-double k e x fs a m n = go (which (insert k e fs))
  where
    go : Which (insert k e fs) → insert k e fs ≡ refused 21 k
    go (is-fine gs h) = absurd (lacks-at e.name fs x (insert-lacks k e fs gs a h) m n)
    go (is-refused c q h) = let t = not_in k e fs c q h in h ∙ rw (t.number, t.place)

-- 2. the loop over all entries: the first k are in order, and have different names
pub record Different (p r : List ℕ) (m k : ℕ) : Type 0 where
  pub within : k ≤ m
  pub done : List Entry
  pub ascending : Ascending done
  pub has : (j : ℕ) → j < k → Memᴰ (entry_at p r j) done
  pub only : (x : Entry) → Memᴰ x done → (j : ℕ) × (j < k) × (x ≡ entry_at p r j)
  pub whole : in_order_of (given p r 0 m) ≡ insert_all k done (given p r k (m - k))

pub different-start : (p r : List ℕ) (m : ℕ) → Different p r m 0
unfolding in_order_of
different-start p r m =
    let z : m - 0 ≡ m = omega arith in
    record { within = omega arith; done = []; ascending = tt; has = λ j b. absurd (omega arith); only = λ x i. absurd (Memᴰ.not-nil i); whole = rw z }

pub given-more : (p r : List ℕ) (k n : ℕ) → k < n → given p r k (n - k) ≡ entry_at p r k ∷ given p r (suc k) (n - suc k)
unfolding given
given-more p r k n h = let e : n - k ≡ suc (n - suc k) = omega arith in rw e

pub given-none : (p r : List ℕ) (k n : ℕ) → n ≤ k → given p r k (n - k) ≡ []
unfolding given
given-none p r k n h = let e : n - k ≡ 0 = omega arith in rw e

module _ {p r : List ℕ} {m k : ℕ} (w : Different p r m k) where
  pub different-end : m ≤ k → silent (in_order_of (given p r 0 m)) ≡ fine 0
  unfolding insert_all
  different-end h = rw (w.whole, given-none p r k m h)

  pub different-stop : k < m → seen p r k k ≡ true → silent (in_order_of (given p r 0 m)) ≡ refused 21 k
  unfolding insert_all
  different-stop h s =
      let t = seen-there p r k k s in
      let d = insert-double k (entry_at p r k) (entry_at p r t.number) w.done w.ascending (w.has t.number t.before) t.one_name in
      rw (w.whole, given-more p r k m h, d)

  pub different-more : k < m → seen p r k k ≡ false → Different p r m (k + 1)
  unfolding insert_all
  different-more h s =
      let e = entry_at p r k in
      let l : Lacks e.name w.done = lacks-all e.name w.done (λ x i n. let y = w.only x i in unseen-other p r k k y.0 s y.1 (n ∙ ap (λ (z : Entry). z.name) y.2)) in
      let g = insert-fine k e w.done l in
      record {
        within = omega arith;
        done = g.value;
        ascending = insert-ascending k e w.done g.value w.ascending g.is-fine;
        has = λ j b. old g j b (ltb j k) refl;
        only = λ x i. new g x (insert-from k e w.done g.value x g.is-fine i);
        whole = w.whole ∙ rw (given-more p r k m h, g.is-fine, add-one);
      }
    where
      old : (g : Fine (insert k (entry_at p r k) w.done)) (j : ℕ) → j < k + 1 → (t : Bool) → ltb j k ≡ t → Memᴰ (entry_at p r j) g.value
      old g j b true e = insert-old k (entry_at p r k) w.done g.value (entry_at p r j) g.is-fine (w.has j (ltb-true j k e))
      old g j b false e = let f = ltb-false j k e in let z : j ≡ k = omega arith in rw z (insert-new k (entry_at p r k) w.done g.value g.is-fine)

      new : (g : Fine (insert k (entry_at p r k) w.done)) (x : Entry) → (x ≡ entry_at p r k) ⊎ Memᴰ x w.done → (j : ℕ) × (j < k + 1) × (x ≡ entry_at p r j)
      new g x (inl e) = (k, omega arith, e)
      new g x (inr i) = let y = w.only x i in let b = y.1 in (y.0, omega arith, y.2)
