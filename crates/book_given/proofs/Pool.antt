-- Laws for the rows given: their numbers and names, rows out of the pool, names that stand twice.
-- Assumes nothing.
use Prim.Native.Nat.{ℕ, zero, suc, ◌+◌, ◌*◌, ◌-◌, ◌<◌, ◌≤◌}
use mathlib.Core.Path.{◌≡◌, refl, sym, ap, ◌∙◌}
use mathlib.Core.Bool.{Bool, true, false}
use Rattle.std.proofs.lemmas.Bool.{false≢true}
use mathlib.Core.List.{List}
use native.Mathlib.Omega.{arith}
use native.Mathlib.Numerals.{add-one}
use lib.ListN.{length, get_or}
use lib.Dec.{leb}
use borrow.Author.Rules.{rules}
use borrow.Author.Tests.{le-leb, lt-leb}
use Rattle.format.specs.Outcome.{fine}
use Rattle.book.specs.Names.{order}
use Rattle.book.specs.Contents.{part}
use Rattle.book.specs.Entries.{in_order_of}
use Rattle.book.specs.Given.{field_at, entry_at, given, in_pool, pooled, seen}
use Rattle.book.specs.Steps.{silent}
use Rattle.book.proofs.Twice as twice
use Rattle.book.proofs.Twice.{Unseen, unseen-start, unseen-end, Different, different-start, different-end}
use Rattle.book_rows.specs.Told.{order_by}
use Rattle.std.specs.declared.cmp.Ordering.{Ordering}
use Rattle.std.specs.declared.cmp.Ordering.TheVariants.{Less, Equal, Greater}
use Rattle.std.specs.Ordering.{is_eq}
use Rattle.std.specs.Prelude.{Some}
use Rattle.book_given.specs.Told.{twice_of}

-- a number and a name of a row
pub cell-is : (rows : List ℕ) (i k : ℕ) {v w r : ℕ} → v ≡ i → w ≡ k → r ≡ get_or rows (5 * v + w) 0 → r ≡ field_at rows i k
cell-is rows i k e g f = f ∙ rw (e, g)

pub name-is : (pool rows : List ℕ) (i : ℕ) {s l u : ℕ} {name : List ℕ} → s ≡ field_at rows i 0 → l ≡ field_at rows i 1 → u ≡ s → name ≡ part pool u l → name ≡ (entry_at pool rows i).name
unfolding entry_at
name-is pool rows i a b d e = e ∙ rw (d, a, b)

pub ruleset cells = (rules, cell-is, name-is)

-- a row in the pool
module _ (p r : List ℕ) (i : ℕ) {z s : ℕ} (a : z ≡ field_at r i 4) (b : s ≡ z) {n l : ℕ} (c : n ≡ field_at r i 0) (d : l ≡ field_at r i 1) {u v : ℕ} (e : u ≡ n) (f : v ≡ l) where
  pub name_out : length p < u + v → false ≡ in_pool p r i
  unfolding in_pool
  name_out h = rw (← c, ← e, ← d, ← f, lt-leb (u + v) (length p) h)

  module _ (h : u + v ≤ length p) {m w : ℕ} (g : m ≡ field_at r i 2) (k : w ≡ m) where
    pub values-out : length p < w + s → false ≡ in_pool p r i
    unfolding in_pool
    values-out o = rw (← c, ← e, ← d, ← f, le-leb (u + v) (length p) h, ← g, ← k, ← a, ← b, lt-leb (w + s) (length p) o)

    pub masks-test : w + s ≤ length p → {o q : ℕ} → o ≡ field_at r i 3 → q ≡ o → leb (q + s) (length p) ≡ in_pool p r i
    unfolding in_pool
    masks-test t x y = rw (← c, ← e, ← d, ← f, le-leb (u + v) (length p) h, ← g, ← k, ← a, ← b, le-leb (w + s) (length p) t, ← x, ← y)

pub ruleset pooling = (rules, name_out, values-out, masks-test)

-- the first row out of the pool: the first i are in it
pub record Inside (p r : List ℕ) (n i : ℕ) : Type 0 where
  pub within : i ≤ n
  pub whole : pooled p r 0 n ≡ i + pooled p r i (n - i)

pub inside-start : (p r : List ℕ) (n : ℕ) → Inside p r n 0
inside-start p r n = let z : n - 0 ≡ n = omega arith in record { within = omega arith; whole = rw z (omega arith) }

module _ {p r : List ℕ} {n i : ℕ} (w : Inside p r n i) where
  pub inside-end : n ≤ i → n ≡ pooled p r 0 n
  unfolding pooled
  inside-end h = let b = w.within in let z : n - i ≡ 0 = omega arith in sym (w.whole ∙ rw z (omega arith))

  next : i < n → n - i ≡ suc (n - suc i)
  next h = omega arith

  pub inside-more : {t : Bool} → i < n → t ≡ in_pool p r i → t ≡ true → Inside p r n (i + 1)
  unfolding pooled
  inside-more h e f =
      let g : in_pool p r i ≡ true = sym e ∙ f in
      record { within = omega arith; whole = w.whole ∙ rw (next h, g, add-one) (omega arith) }

  pub inside-stop : {t : Bool} → i < n → t ≡ in_pool p r i → t ≡ false → i ≡ pooled p r 0 n
  unfolding pooled
  inside-stop h e f =
      let g : in_pool p r i ≡ false = sym e ∙ f in
      sym (w.whole ∙ rw (next h, g) (omega arith))

pub ruleset inside = (rules, inside-start, inside-end, inside-more, inside-stop)

-- a name among the earlier ones, by the answer of the comparison
module _ {p r : List ℕ} {k i : ℕ} (w : Unseen p r k i) (h : i < k) {a b : List ℕ} (c : a ≡ (entry_at p r k).name) (d : b ≡ (entry_at p r i).name) where
  unseen_by : (y : Ordering) → order a b ≡ order_by y → is_eq y ≡ false → Unseen p r k (i + 1)
  unseen_by Less e g = twice.unseen-less w h (rw (c, d) at e)
  unseen_by Equal e g = absurd (false≢true (sym g))
  unseen_by Greater e g = twice.unseen-more w h (rw (c, d) at e)

  same_by : (y : Ordering) → order a b ≡ order_by y → is_eq y ≡ true → true ≡ seen p r k k
  same_by Less e g = absurd (false≢true g)
  same_by Equal e g = twice.unseen_same w h (rw (c, d) at e)
  same_by Greater e g = absurd (false≢true g)

  module _ (y : Ordering) (e : order a b ≡ order_by y) {t : Bool} (f : t ≡ is_eq y) where
    pub unseen-next : t ≡ false → Unseen p r k (i + 1)
    unseen-next g = unseen_by y e (sym f ∙ g)

    pub unseen_same : t ≡ true → true ≡ seen p r k k
    unseen_same g = same_by y e (sym f ∙ g)

pub ruleset seeing = (rules, unseen-start, unseen-end, unseen-next, unseen_same)

-- all entries, by the answer of the test
module _ {p r : List ℕ} {m k : ℕ} (w : Different p r m k) (h : k < m) {t : Bool} (e : t ≡ seen p r k k) where
  pub twice-more : t ≡ false → Different p r m (k + 1)
  twice-more f = twice.different-more w h (sym e ∙ f)

  pub twice-stop : t ≡ true → silent (in_order_of (given p r 0 m)) ≡ twice_of (Some k)
  twice-stop f = twice.different-stop w h (sym e ∙ f)

pub ruleset differing = (rules, different-start, different-end, twice-more, twice-stop)
