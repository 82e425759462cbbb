-- No row stands twice in the list: ids, positions and indexes go upwards, and kinds tell the rest.
-- Assumes nothing.
use Prim.Native.Nat.{suc, ℕ, ◌≤◌, ◌<◌}
use mathlib.Core.Path.{◌≡◌, refl, sym, subst}
use mathlib.Core.Bool.{Bool, true, false, not}
use mathlib.Core.Logic.{◌⊎◌, inl, inr}
use mathlib.Core.List.Memᴰ
use mathlib.Core.List.{List, [], ◌++◌, ◌∷◌, Memᴰ}
use mathlib.Core.Option.{Option, none, some}
use lib.Dec.{eqb}
use native.Mathlib.Omega.{arith}
use Rattle.format.specs.Lists.{pick}
use Rattle.format.specs.Fixups.{Fixup}
use Rattle.difference.specs.Module.{At, Cell, Module, Named, first, firsts, fixups_in, images, named, numbered, passing, same_numbers, says, symbols_of}
use Rattle.difference.specs.Changes.{Change, Side, area, area_change, changes, each, fixup, lacking, newer, older, only_new, paired, position, position_change, said_in, same_cell, symbol, symbol_changes, value, value_change}
use Rattle.difference.specs.Turned.{Once}

-- what tells rows apart
id_of : Change → ℕ
id_of (position id at c d) = id
id_of (fixup s id i) = id
id_of (area s id) = id
id_of (value i j) = 0
id_of (symbol s i) = 0

place_of : Change → ℕ
place_of (position id at c d) = at
place_of (fixup s id i) = i
place_of (area s id) = 0
place_of (value i j) = i
place_of (symbol s i) = i

kind_of : Change → ℕ
kind_of (position id at c d) = 0
kind_of (fixup older id i) = 1
kind_of (fixup newer id i) = 2
kind_of (area s id) = 3
kind_of (value i j) = 4
kind_of (symbol older i) = 4
kind_of (symbol newer i) = 5

-- lists one behind the other
once-append : (xs ys : List Change) → Once xs → Once ys → ((c : Change) → Memᴰ c xs → Memᴰ c ys → ⊥) → Once (xs ++ ys)
once-append [] ys o p d = p
once-append (x ∷ xs) ys o p d = ((λ m. step (Memᴰ.append_cases xs m)), once-append xs ys o.1 p (λ c m k. d c (Memᴰ.tail m) k))
  where
    step : Memᴰ x xs ⊎ Memᴰ x ys → ⊥
    step (inl m) = o.0 m
    step (inr m) = d x (Memᴰ.head refl) m

in_both : (P : Change → Type 0) (c : Change) (xs ys : List Change) → (Memᴰ c xs → P c) → (Memᴰ c ys → P c) → Memᴰ c (xs ++ ys) → P c
in_both P c xs ys f g m = step (Memᴰ.append_cases xs m)
  where
    step : Memᴰ c xs ⊎ Memᴰ c ys → P c
    step (inl k) = f k
    step (inr k) = g k

one-once : (b : Bool) (k : Change) → Once (pick b [] (k ∷ []))
one-once true k = tt
one-once false k = ((λ m. elim m [ ]), tt)

one-is : (P : Change → Type 0) (b : Bool) (k c : Change) → P k → Memᴰ c (pick b [] (k ∷ [])) → P c
one-is P true k c p m = elim m [ ]
one-is P false k c p (Memᴰ.head e) = subst P (sym e) p
one-is P false k c p (Memᴰ.tail m) = elim m [ ]

alone-is : (P : Change → Type 0) (k c : Change) → P k → Memᴰ c (k ∷ []) → P c
alone-is P k c p m = one-is P false k c p m

-- by rank
module _ {A : Type 0} (f : ℕ → Option A → Option A → List Change) where
  paired-all : (P : Change → Type 0) → ((i : ℕ) (x y : Option A) (c : Change) → Memᴰ c (f i x y) → P c) → (i : ℕ) (xs ys : List A) (c : Change) → Memᴰ c (paired f i xs ys) → P c
  unfolding paired
  paired-all P h i [] [] c m = elim m [ ]
  paired-all P h i (x ∷ xs) [] c m = in_both P c (f i (some x) none) (paired f (suc i) xs []) (h i (some x) none c) (paired-all P h (suc i) xs [] c) m
  paired-all P h i [] (y ∷ ys) c m = in_both P c (f i none (some y)) (paired f (suc i) [] ys) (h i none (some y) c) (paired-all P h (suc i) [] ys c) m
  paired-all P h i (x ∷ xs) (y ∷ ys) c m = in_both P c (f i (some x) (some y)) (paired f (suc i) xs ys) (h i (some x) (some y) c) (paired-all P h (suc i) xs ys c) m

  module _ (K : Change → ℕ) (key : (i : ℕ) (x y : Option A) (c : Change) → Memᴰ c (f i x y) → K c ≡ i) where
    above : (i : ℕ) (xs ys : List A) (c : Change) → Memᴰ c (paired f i xs ys) → i ≤ K c
    unfolding paired
    above i [] [] c m = elim m [ ]
    above i (x ∷ xs) [] c m = in_both (λ (z : Change). i ≤ K z) c (f i (some x) none) (paired f (suc i) xs []) (λ k. omega (arith, key i (some x) none c k)) (λ k. omega (arith, above (suc i) xs [] c k)) m
    above i [] (y ∷ ys) c m = in_both (λ (z : Change). i ≤ K z) c (f i none (some y)) (paired f (suc i) [] ys) (λ k. omega (arith, key i none (some y) c k)) (λ k. omega (arith, above (suc i) [] ys c k)) m
    above i (x ∷ xs) (y ∷ ys) c m = in_both (λ (z : Change). i ≤ K z) c (f i (some x) (some y)) (paired f (suc i) xs ys) (λ k. omega (arith, key i (some x) (some y) c k)) (λ k. omega (arith, above (suc i) xs ys c k)) m

    paired-once : ((i : ℕ) (x y : Option A) → Once (f i x y)) → (i : ℕ) (xs ys : List A) → Once (paired f i xs ys)
    unfolding paired
    paired-once o i [] [] = tt
    paired-once o i (x ∷ xs) [] = once-append (f i (some x) none) (paired f (suc i) xs []) (o i (some x) none) (paired-once o (suc i) xs []) (λ c m k. omega (arith, key i (some x) none c m, above (suc i) xs [] c k))
    paired-once o i [] (y ∷ ys) = once-append (f i none (some y)) (paired f (suc i) [] ys) (o i none (some y)) (paired-once o (suc i) [] ys) (λ c m k. omega (arith, key i none (some y) c m, above (suc i) [] ys c k))
    paired-once o i (x ∷ xs) (y ∷ ys) = once-append (f i (some x) (some y)) (paired f (suc i) xs ys) (o i (some x) (some y)) (paired-once o (suc i) xs ys) (λ c m k. omega (arith, key i (some x) (some y) c m, above (suc i) xs ys c k))

-- indexes that go upwards
abbrev Rising : {A : Type 0} → ℕ → List (At A) → Type 0
Rising i [] = Unit {0}
Rising i (x ∷ xs) = (i ≤ x.index) × Rising (suc x.index) xs

lower : {A : Type 0} (i j : ℕ) (xs : List (At A)) → i ≤ j → Rising j xs → Rising i xs
lower i j [] h r = tt
lower i j (x ∷ xs) h r = (omega (arith, h, r.0), r.1)

numbered-rising : {A : Type 0} (i : ℕ) (xs : List A) → Rising i (numbered i xs)
unfolding numbered
numbered-rising i [] = tt
numbered-rising i (x ∷ xs) = (omega arith, numbered-rising (suc i) xs)

rising-with : {A : Type 0} (b : Bool) (i : ℕ) (x : At A) (xs : List (At A)) → i ≤ x.index → Rising (suc x.index) xs → Rising i (pick b (x ∷ xs) xs)
rising-with true i x xs h r = (h, r)
rising-with false i x xs h r = lower i (suc x.index) xs (omega (arith, h)) r

passing-rising : {A : Type 0} (p : At A → Bool) (i : ℕ) (xs : List (At A)) → Rising i xs → Rising i (passing p xs)
unfolding passing
passing-rising p i [] r = tt
passing-rising p i (x ∷ xs) r = rising-with (p x) i x (passing p xs) r.0 (passing-rising p (suc x.index) xs r.1)

firsts-rising : (i : ℕ) (ss : List (At Named)) → Rising i ss → Rising i (firsts ss)
unfolding firsts
firsts-rising i [] r = tt
firsts-rising i (s ∷ ss) r = (r.0, passing-rising (λ (t : At Named). not (same_numbers t.it.name s.it.name)) (suc s.index) (firsts ss) (firsts-rising (suc s.index) ss r.1))

module _ {A : Type 0} (g : At A → List Change) where
  each_all : (P : Change → Type 0) → ((x : At A) (c : Change) → Memᴰ c (g x) → P c) → (xs : List (At A)) (c : Change) → Memᴰ c (each g xs) → P c
  unfolding each
  each_all P h [] c m = elim m [ ]
  each_all P h (x ∷ xs) c m = in_both P c (g x) (each g xs) (h x c) (each_all P h xs c) m

  module _ (key : (x : At A) (c : Change) → Memᴰ c (g x) → place_of c ≡ x.index) where
    each-above : (i : ℕ) (xs : List (At A)) → Rising i xs → (c : Change) → Memᴰ c (each g xs) → i ≤ place_of c
    unfolding each
    each-above i [] r c m = elim m [ ]
    each-above i (x ∷ xs) r c m = in_both (λ (z : Change). i ≤ place_of z) c (g x) (each g xs) (λ k. omega (arith, r.0, key x c k)) (λ k. omega (arith, r.0, each-above (suc x.index) xs r.1 c k)) m

    each-once : ((x : At A) → Once (g x)) → (i : ℕ) (xs : List (At A)) → Rising i xs → Once (each g xs)
    unfolding each
    each-once o i [] r = tt
    each-once o i (x ∷ xs) r = once-append (g x) (each g xs) (o x) (each-once o (suc x.index) xs r.1) (λ c m k. omega (arith, key x c m, each-above (suc x.index) xs r.1 c k))

-- fixups
lacking-all : (P : Change → Type 0) (side : Side) (id : ℕ) (a b : Module) → ((i : ℕ) → P (fixup side id i)) → (c : Change) → Memᴰ c (lacking side id a b) → P c
unfolding lacking
lacking-all P side id a b h c m =
    each_all (λ (x : At Fixup). pick (said_in (says a.text x.it) b.text b.fixups) [] (fixup side id x.index ∷ [])) P
    (λ x d k. one-is P (said_in (says a.text x.it) b.text b.fixups) (fixup side id x.index) d (h x.index) k) (fixups_in a id) c m

lacking-once : (side : Side) (id : ℕ) (a b : Module) → Once (lacking side id a b)
unfolding lacking fixups_in place_of
lacking-once side id a b =
    each-once (λ (x : At Fixup). pick (said_in (says a.text x.it) b.text b.fixups) [] (fixup side id x.index ∷ []))
    (λ x d k. one-is (λ (z : Change). place_of z ≡ x.index) (said_in (says a.text x.it) b.text b.fixups) (fixup side id x.index) d refl k)
    (λ x. one-once (said_in (says a.text x.it) b.text b.fixups) (fixup side id x.index)) 0 (fixups_in a id)
    (passing-rising (λ (x : At Fixup). eqb x.it.home id) 0 (numbered 0 a.fixups) (numbered-rising 0 a.fixups))

-- areas
position-all : (P : Change → Type 0) (id : ℕ) → ((at : ℕ) (x y : Option Cell) → P (position id at x y)) → (cs ds : List Cell) (c : Change) → Memᴰ c (paired (position_change id) 0 cs ds) → P c
unfolding position_change
position-all P id h cs ds c m = paired-all (position_change id) P (λ at x y d k. one-is P (same_cell x y) (position id at x y) d (h at x y) k) 0 cs ds c m

area-id : (a b : Module) (id : ℕ) (x y : Option (List Cell)) (c : Change) → Memᴰ c (area_change a b id x y) → id_of c ≡ id
unfolding area_change id_of
area-id a b id (some cs) (some ds) c m =
    in_both (λ (z : Change). id_of z ≡ id) c (paired (position_change id) 0 cs ds) (lacking older id a b ++ lacking newer id b a)
    (position-all (λ (z : Change). id_of z ≡ id) id (λ at x y. refl) cs ds c)
    (in_both (λ (z : Change). id_of z ≡ id) c (lacking older id a b) (lacking newer id b a)
    (lacking-all (λ (z : Change). id_of z ≡ id) older id a b (λ i. refl) c) (lacking-all (λ (z : Change). id_of z ≡ id) newer id b a (λ i. refl) c)) m
area-id a b id (some cs) none c m = alone-is (λ (z : Change). id_of z ≡ id) (area older id) c refl m
area-id a b id none (some ds) c m = alone-is (λ (z : Change). id_of z ≡ id) (area newer id) c refl m
area-id a b id none none c m = elim m [ ]

area-kind : (a b : Module) (id : ℕ) (x y : Option (List Cell)) (c : Change) → Memᴰ c (area_change a b id x y) → kind_of c < 4
unfolding area_change kind_of
area-kind a b id (some cs) (some ds) c m =
    in_both (λ (z : Change). kind_of z < 4) c (paired (position_change id) 0 cs ds) (lacking older id a b ++ lacking newer id b a)
    (position-all (λ (z : Change). kind_of z < 4) id (λ at x y. omega arith) cs ds c)
    (in_both (λ (z : Change). kind_of z < 4) c (lacking older id a b) (lacking newer id b a)
    (lacking-all (λ (z : Change). kind_of z < 4) older id a b (λ i. omega arith) c) (lacking-all (λ (z : Change). kind_of z < 4) newer id b a (λ i. omega arith) c)) m
area-kind a b id (some cs) none c m = alone-is (λ (z : Change). kind_of z < 4) (area older id) c (omega arith) m
area-kind a b id none (some ds) c m = alone-is (λ (z : Change). kind_of z < 4) (area newer id) c (omega arith) m
area-kind a b id none none c m = elim m [ ]

area-once : (a b : Module) (id : ℕ) (x y : Option (List Cell)) → Once (area_change a b id x y)
unfolding area_change kind_of position_change place_of
area-once a b id (some cs) (some ds) =
    once-append (paired (position_change id) 0 cs ds) (lacking older id a b ++ lacking newer id b a)
    (paired-once (position_change id) place_of (λ at x y d k. one-is (λ (z : Change). place_of z ≡ at) (same_cell x y) (position id at x y) d refl k) (λ at x y. one-once (same_cell x y) (position id at x y)) 0 cs ds)
    (once-append (lacking older id a b) (lacking newer id b a) (lacking-once older id a b) (lacking-once newer id b a)
    (λ c m k. omega (arith, lacking-all (λ (z : Change). kind_of z ≡ 1) older id a b (λ i. refl) c m, lacking-all (λ (z : Change). kind_of z ≡ 2) newer id b a (λ i. refl) c k)))
    (λ c m k. omega (
      arith,
      position-all (λ (z : Change). kind_of z ≡ 0) id (λ at x y. refl) cs ds c m,
      in_both (λ (z : Change). 1 ≤ kind_of z) c (lacking older id a b) (lacking newer id b a)
          (lacking-all (λ (z : Change). 1 ≤ kind_of z) older id a b (λ i. omega arith) c) (lacking-all (λ (z : Change). 1 ≤ kind_of z) newer id b a (λ i. omega arith) c) k,
    ))
area-once a b id (some cs) none = ((λ m. elim m [ ]), tt)
area-once a b id none (some ds) = ((λ m. elim m [ ]), tt)
area-once a b id none none = tt

-- symbols
value-is : (P : Change → Type 0) (s : At Named) (o : Option (At Named)) (c : Change) → P (symbol older s.index) → ((j : ℕ) → P (value s.index j)) → Memᴰ c (value_change s o) → P c
value-is P s none c p q m = alone-is P (symbol older s.index) c p m
value-is P s (some t) c p q m = one-is P (eqb s.it.value t.it.value) (value s.index t.index) c (q t.index) m

value-once : (s : At Named) (o : Option (At Named)) → Once (value_change s o)
value-once s none = ((λ m. elim m [ ]), tt)
value-once s (some t) = one-once (eqb s.it.value t.it.value) (value s.index t.index)

new_is : (P : Change → Type 0) (t : At Named) (o : Option (At Named)) (c : Change) → P (symbol newer t.index) → Memᴰ c (only_new t o) → P c
new_is P t none c p m = alone-is P (symbol newer t.index) c p m
new_is P t (some s) c p m = elim m [ ]

new-once : (t : At Named) (o : Option (At Named)) → Once (only_new t o)
new-once t none = ((λ m. elim m [ ]), tt)
new-once t (some s) = tt

module _ (ss ts : List (At Named)) where
  olds-kind : (c : Change) → Memᴰ c (each (λ (s : At Named). value_change s (first s.it.name ts)) (firsts ss)) → kind_of c ≡ 4
  unfolding kind_of
  olds-kind c m = each_all (λ (s : At Named). value_change s (first s.it.name ts)) (λ (z : Change). kind_of z ≡ 4)
      (λ s d k. value-is (λ (z : Change). kind_of z ≡ 4) s (first s.it.name ts) d refl (λ j. refl) k) (firsts ss) c m

  news-kind : (c : Change) → Memᴰ c (each (λ (t : At Named). only_new t (first t.it.name ss)) (firsts ts)) → kind_of c ≡ 5
  unfolding kind_of
  news-kind c m = each_all (λ (t : At Named). only_new t (first t.it.name ss)) (λ (z : Change). kind_of z ≡ 5)
      (λ t d k. new_is (λ (z : Change). kind_of z ≡ 5) t (first t.it.name ss) d refl k) (firsts ts) c m

  symbols-kind : (c : Change) → Memᴰ c (symbol_changes ss ts) → 4 ≤ kind_of c
  unfolding symbol_changes
  symbols-kind c m = in_both (λ (z : Change). 4 ≤ kind_of z) c (each (λ (s : At Named). value_change s (first s.it.name ts)) (firsts ss)) (each (λ (t : At Named). only_new t (first t.it.name ss)) (firsts ts))
      (λ k. omega (arith, olds-kind c k)) (λ k. omega (arith, news-kind c k)) m

  symbols-once : Rising 0 ss → Rising 0 ts → Once (symbol_changes ss ts)
  unfolding symbol_changes place_of
  symbols-once r q =
      once-append (each (λ (s : At Named). value_change s (first s.it.name ts)) (firsts ss)) (each (λ (t : At Named). only_new t (first t.it.name ss)) (firsts ts))
      (each-once (λ (s : At Named). value_change s (first s.it.name ts)) (λ s d k. value-is (λ (z : Change). place_of z ≡ s.index) s (first s.it.name ts) d refl (λ j. refl) k)
      (λ s. value-once s (first s.it.name ts)) 0 (firsts ss) (firsts-rising 0 ss r))
      (each-once (λ (t : At Named). only_new t (first t.it.name ss)) (λ t d k. new_is (λ (z : Change). place_of z ≡ t.index) t (first t.it.name ss) d refl k)
      (λ t. new-once t (first t.it.name ss)) 0 (firsts ts) (firsts-rising 0 ts q))
      (λ c m k. omega (arith, olds-kind c m, news-kind c k))

-- no row stands twice
pub no-row-twice : (a b : Module) → Once (changes a b)
unfolding changes symbols_of
no-row-twice a b =
    once-append (paired (area_change a b) 0 (images a) (images b)) (symbol_changes (symbols_of a) (symbols_of b))
    (paired-once (area_change a b) id_of (area-id a b) (area-once a b) 0 (images a) (images b))
    (symbols-once (symbols_of a) (symbols_of b) (numbered-rising 0 (named a.text a.symbols)) (numbered-rising 0 (named b.text b.symbols)))
    (λ c m k. omega (arith, paired-all (area_change a b) (λ (z : Change). kind_of z < 4) (area-kind a b) 0 (images a) (images b) c m, symbols-kind (symbols_of a) (symbols_of b) c k))
