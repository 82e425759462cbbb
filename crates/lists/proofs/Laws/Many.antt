-- The loop over things of one kind, for any kind: n are read, the place is p, and as many more can be asked for as the text has bytes. A column of what was read goes into what was lent.
-- Assumes nothing.
use Rattle.std.proofs.Common.{◌≡◌, ℕ, suc, ◌+◌, ◌-◌, ◌<◌, ◌≤◌, List, [], ◌∷◌, map, length, set, sym, ap, ◌∙◌, add-one, arith}
use lib.Seq.{sets}
use Rattle.format.specs.Got.{is, isnt, Reader, Listed, many}
use Rattle.lists.specs.Many.{Ran}

pub record Counting {A : Type 0} (item : Reader A) (s : List ℕ) (at n p : ℕ) : Type 0 where
  pub within : n ≤ length s
  pub count : length (many (length s) item s at).items ≡ n + length (many (length s - n) item s p).items
  pub place : (many (length s) item s at).end ≡ (many (length s - n) item s p).end

-- a column of what was read, in the room that was lent for it
pub record Column {A : Type 0} (g : A → ℕ) (item : Reader A) (s : List ℕ) (at : ℕ) (room left : List ℕ) (n p : ℕ) : Type 0 where
  pub store : sets room 0 (map g (many (length s) item s at).items) ≡ sets left n (map g (many (length s - n) item s p).items)

pub count-start : {A : Type 0} (item : Reader A) (s : List ℕ) (at : ℕ) → Counting item s at 0 at
count-start item s at = let z : length s ≡ length s - 0 = omega arith in record { within = omega arith; count = ap (λ (k : ℕ). length (many k item s at).items) z ∙ omega arith; place = ap (λ (k : ℕ). (many k item s at).end) z }

pub column-start : {A : Type 0} (g : A → ℕ) (item : Reader A) (s : List ℕ) (at : ℕ) (room : List ℕ) → Column g item s at room room 0 at
column-start g item s at room = let z : length s ≡ length s - 0 = omega arith in record { store = ap (λ (k : ℕ). sets room 0 (map g (many k item s at).items)) z }

module _ {A : Type 0} (item : Reader A) (s : List ℕ) (n p : ℕ) where
  -- nothing more
  many-none : length s ≤ n → many (length s - n) item s p ≡ record { items = []; end = p }
  unfolding many
  many-none h = let z : length s - n ≡ 0 = omega arith in rw z

  module _ (h : n < length s) where
    next : length s - n ≡ suc (length s - (n + 1))
    next = omega arith

    many-stop : {r x : ℕ} → item s p ≡ isnt r x → many (length s - n) item s p ≡ record { items = []; end = p }
    unfolding many
    many-stop e = ap (λ (x : ℕ). many x item s p) next ∙ rw e

    many_more : {a : A} {q : ℕ} → item s p ≡ is a q → many (length s - n) item s p ≡ record { items = a ∷ (many (length s - (n + 1)) item s q).items; end = (many (length s - (n + 1)) item s q).end }
    unfolding many
    many_more e = ap (λ (x : ℕ). many x item s p) next ∙ rw e

module _ {A : Type 0} {item : Reader A} {s : List ℕ} {at n p : ℕ} (w : Counting item s at n p) where
  count-done : many (length s - n) item s p ≡ record { items = []; end = p } → Ran item s at n p
  count-done e = record { counted = omega (arith, w.count, ap (λ (x : Listed A). length x.items) e); reached = sym (w.place ∙ ap (λ (x : Listed A). x.end) e) }

  pub count-end : length s ≤ n → Ran item s at (length s) p
  count-end h = let z : n ≡ length s = omega (arith, w.within) in rw z at (count-done (many-none item s n p h))

  module _ (h : n < length s) where
    pub count-stop : {r x : ℕ} → item s p ≡ isnt r x → Ran item s at n p
    count-stop e = count-done (many-stop item s n p h e)

    pub count-more : {a : A} {q : ℕ} → item s p ≡ is a q → Counting item s at (n + 1) q
    count-more e = let m = many_more item s n p h e in record {
      within = omega arith;
      count = omega (arith, w.count, ap (λ (x : Listed A). length x.items) m);
      place = w.place ∙ ap (λ (x : Listed A). x.end) m;
    }

module _ {A : Type 0} {g : A → ℕ} {item : Reader A} {s : List ℕ} {at : ℕ} {room left : List ℕ} {n p : ℕ} (w : Column g item s at room left n p) where
  column-done : many (length s - n) item s p ≡ record { items = []; end = p } → left ≡ sets room 0 (map g (many (length s) item s at).items)
  column-done e = sym (w.store ∙ ap (λ (x : Listed A). sets left n (map g x.items)) e)

  pub column-end : length s ≤ n → left ≡ sets room 0 (map g (many (length s) item s at).items)
  column-end h = column-done (many-none item s n p h)

  module _ (h : n < length s) where
    pub column-stop : {r x : ℕ} → item s p ≡ isnt r x → left ≡ sets room 0 (map g (many (length s) item s at).items)
    column-stop e = column-done (many-stop item s n p h e)

    pub column-more : {a : A} {q : ℕ} → item s p ≡ is a q → {left' : List ℕ} → left' ≡ set left n (g a) → Column g item s at room left' (n + 1) q
    column-more e f = record { store = w.store ∙ (ap (λ (x : Listed A). sets left n (map g x.items)) (many_more item s n p h e) ∙ rw (f, add-one)) }
