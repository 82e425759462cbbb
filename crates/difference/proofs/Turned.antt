-- Turning the two sides round: every row of the one list, its sides exchanged, is a row of the other.
-- Assumes nothing.
use Prim.Native.Nat.{suc, ℕ}
use mathlib.Core.Path.{◌≡◌, refl, ap, sym, ◌∙◌, subst}
use mathlib.Core.Bool.{Bool, true, false}
use mathlib.Core.Logic.{◌↔◌, ◌⊎◌, inl, inr}
use mathlib.Core.List.Memᴰ
use mathlib.Core.List.{List, [], ◌++◌, ◌∷◌, Memᴰ}
use mathlib.Core.Option.{Option, none, some}
use lib.Dec.{eqb}
use Rattle.format.specs.Lists.{pick}
use Rattle.format.specs.Fixups.{Fixup}
use Rattle.difference.specs.Module.{At, Cell, Module, Named, first, firsts, fixups_in, images, says, symbols_of}
use Rattle.difference.specs.Changes.{Change, Side, area, area_change, changes, each, fixup, lacking, newer, older, only_new, paired, position, position_change, said_in, same_cell, symbol, symbol_changes, value, value_change}
use Rattle.difference.specs.Turned.{other, turned}
use Rattle.difference.proofs.Lists.{eqb-true}
use Rattle.difference.proofs.Symbols.{first-is, firsts-first}

-- twice turned is as it was
pub turned-twice : (c : Change) → turned (turned c) ≡ c
unfolding turned
turned-twice (position id at c d) = refl
turned-twice (fixup older id i) = refl
turned-twice (fixup newer id i) = refl
turned-twice (area older id) = refl
turned-twice (area newer id) = refl
turned-twice (value i j) = refl
turned-twice (symbol older i) = refl
turned-twice (symbol newer i) = refl

-- equal numbers either way
eqb-with : (b c : Bool) (m n : ℕ) → eqb m n ≡ b → eqb n m ≡ c → b ≡ c
eqb-with true true m n e f = refl
eqb-with true false m n e f = sym e ∙ (ap (λ (k : ℕ). eqb k n) (eqb-true m n e) ∙ (ap (λ (k : ℕ). eqb n k) (sym (eqb-true m n e)) ∙ f))
eqb-with false true m n e f = sym e ∙ (ap (λ (k : ℕ). eqb m k) (eqb-true n m f) ∙ (ap (λ (k : ℕ). eqb k m) (sym (eqb-true n m f)) ∙ f))
eqb-with false false m n e f = refl

eqb-turn : (m n : ℕ) → eqb m n ≡ eqb n m
eqb-turn m n = eqb-with (eqb m n) (eqb n m) m n refl refl

cell-turn : (c d : Option Cell) → same_cell c d ≡ same_cell d c
cell-turn (some c) (some d) = rw (eqb-turn c.value d.value, eqb-turn c.mask d.mask)
cell-turn (some c) none = refl
cell-turn none (some d) = refl
cell-turn none none = refl

-- a row that stands alone
one-turn : (b : Bool) (k c : Change) → Memᴰ c (pick b [] (k ∷ [])) → Memᴰ (turned c) (pick b [] (turned k ∷ []))
one-turn true k c m = elim m [ ]
one-turn false k c (Memᴰ.head e) = Memᴰ.head (ap turned e)
one-turn false k c (Memᴰ.tail m) = elim m [ ]

alone : (k l c : Change) → turned k ≡ l → Memᴰ c (k ∷ []) → Memᴰ (turned c) (l ∷ [])
alone k l c e (Memᴰ.head h) = Memᴰ.head (ap turned h ∙ e)
alone k l c e (Memᴰ.tail m) = elim m [ ]

-- lists one behind the other
both : (c : Change) (xs : List Change) {ys xs' ys' : List Change} → (Memᴰ c xs → Memᴰ (turned c) xs') → (Memᴰ c ys → Memᴰ (turned c) ys')
    → Memᴰ c (xs ++ ys) → Memᴰ (turned c) (xs' ++ ys')
both c xs {ys} {xs'} {ys'} f g m = step (Memᴰ.append_cases xs m)
  where
    step : Memᴰ c xs ⊎ Memᴰ c ys → Memᴰ (turned c) (xs' ++ ys')
    step (inl k) = Memᴰ.append_left ys' (f k)
    step (inr k) = Memᴰ.append_right xs' (g k)

crossed : (c : Change) (xs : List Change) {ys xs' ys' : List Change} → (Memᴰ c xs → Memᴰ (turned c) ys') → (Memᴰ c ys → Memᴰ (turned c) xs')
    → Memᴰ c (xs ++ ys) → Memᴰ (turned c) (xs' ++ ys')
crossed c xs {ys} {xs'} {ys'} f g m = step (Memᴰ.append_cases xs m)
  where
    step : Memᴰ c xs ⊎ Memᴰ c ys → Memᴰ (turned c) (xs' ++ ys')
    step (inl k) = Memᴰ.append_right xs' (f k)
    step (inr k) = Memᴰ.append_left ys' (g k)

each_turn : {A : Type 0} (f g : A → List Change) (c : Change) → ((x : A) → Memᴰ c (f x) → Memᴰ (turned c) (g x)) → (xs : List A)
    → Memᴰ c (each f xs) → Memᴰ (turned c) (each g xs)
unfolding each
each_turn f g c h [] m = elim m [ ]
each_turn f g c h (x ∷ xs) m = both c (f x) (h x) (each_turn f g c h xs) m

paired-turn : {A : Type 0} (f g : ℕ → Option A → Option A → List Change) (c : Change)
    → ((i : ℕ) (x y : Option A) → Memᴰ c (f i x y) → Memᴰ (turned c) (g i y x)) → (i : ℕ) (xs ys : List A)
    → Memᴰ c (paired f i xs ys) → Memᴰ (turned c) (paired g i ys xs)
unfolding paired
paired-turn f g c h i [] [] m = elim m [ ]
paired-turn f g c h i (x ∷ xs) [] m = both c (f i (some x) none) (h i (some x) none) (paired-turn f g c h (suc i) xs []) m
paired-turn f g c h i [] (y ∷ ys) m = both c (f i none (some y)) (h i none (some y)) (paired-turn f g c h (suc i) [] ys) m
paired-turn f g c h i (x ∷ xs) (y ∷ ys) m = both c (f i (some x) (some y)) (h i (some x) (some y)) (paired-turn f g c h (suc i) xs ys) m

-- positions, fixups, areas
position-turn : (id : ℕ) (c : Change) (at : ℕ) (x y : Option Cell) → Memᴰ c (position_change id at x y) → Memᴰ (turned c) (position_change id at y x)
unfolding position_change turned
position-turn id c at x y m =
    subst (λ (b : Bool). Memᴰ (turned c) (pick b [] (position id at y x ∷ []))) (cell-turn x y) (one-turn (same_cell x y) (position id at x y) c m)

lacking-turn : (side : Side) (id : ℕ) (a b : Module) (c : Change) → Memᴰ c (lacking side id a b) → Memᴰ (turned c) (lacking (other side) id a b)
unfolding lacking turned
lacking-turn side id a b c m =
    each_turn (λ (x : At Fixup). pick (said_in (says a.text x.it) b.text b.fixups) [] (fixup side id x.index ∷ []))
    (λ (x : At Fixup). pick (said_in (says a.text x.it) b.text b.fixups) [] (fixup (other side) id x.index ∷ [])) c
    (λ x k. one-turn (said_in (says a.text x.it) b.text b.fixups) (fixup side id x.index) c k) (fixups_in a id) m

area-turn : (a b : Module) (c : Change) (id : ℕ) (x y : Option (List Cell)) → Memᴰ c (area_change a b id x y) → Memᴰ (turned c) (area_change b a id y x)
unfolding area_change turned
area-turn a b c id (some cs) (some ds) m =
    both c (paired (position_change id) 0 cs ds) (paired-turn (position_change id) (position_change id) c (position-turn id c) 0 cs ds)
    (crossed c (lacking older id a b) (lacking-turn older id a b c) (lacking-turn newer id b a c)) m
area-turn a b c id (some cs) none m = alone (area older id) (area newer id) c refl m
area-turn a b c id none (some ds) m = alone (area newer id) (area older id) c refl m
area-turn a b c id none none m = elim m [ ]

-- symbols
pub record From {A : Type 0} (f : A → List Change) (xs : List A) (c : Change) : Type 0 where
  pub it : A
  pub there : Memᴰ it xs
  pub gives : Memᴰ c (f it)

each_from : {A : Type 0} (f : A → List Change) (xs : List A) (c : Change) → Memᴰ c (each f xs) → From f xs c
unfolding each
each_from f [] c m = elim m [ ]
each_from {A} f (x ∷ xs) c m = step (Memᴰ.append_cases (f x) m) (λ k. each_from f xs c k)
  where
    step : Memᴰ c (f x) ⊎ Memᴰ c (each f xs) → (Memᴰ c (each f xs) → From f xs c) → From f (x ∷ xs) c
    step (inl k) r = record { it = x; there = Memᴰ.head refl; gives = k }
    step (inr k) r = let g = r k in record { it = g.it; there = Memᴰ.tail g.there; gives = g.gives }

from_each : {A : Type 0} (f : A → List Change) (xs : List A) (c : Change) (x : A) → Memᴰ x xs → Memᴰ c (f x) → Memᴰ c (each f xs)
unfolding each
from_each {A = A} f [] c x x4 k = elim x4 [ ]
from_each f (y ∷ ys) c x (Memᴰ.head e) k = Memᴰ.append_left (each f ys) (subst (λ (z : _). Memᴰ c (f z)) e k)
from_each f (y ∷ ys) c x (Memᴰ.tail m) k = Memᴰ.append_right (f y) (from_each f ys c x m k)

module _ (ss ts : List (At Named)) (c : Change) where
  -- the list with the sides exchanged
  abbrev back : At Named → List Change
  back t = value_change t (first t.it.name ss)

  abbrev only : At Named → List Change
  only s = only_new s (first s.it.name ts)

  old-turn : (s : At Named) → Memᴰ s (firsts ss) → (o : Option (At Named)) → first s.it.name ts ≡ o → Memᴰ c (value_change s o)
      → Memᴰ (turned c) (each back (firsts ts) ++ each only (firsts ss))
  unfolding turned
  old-turn s m none e k =
      Memᴰ.append_right (each back (firsts ts))
      (from_each only (firsts ss) (turned c) s m
      (subst (λ (o : Option (At Named)). Memᴰ (turned c) (only_new s o)) (sym e) (alone (symbol older s.index) (symbol newer s.index) c refl k)))
  old-turn s m (some t) e k =
      let i = first-is s.it.name ts t e in
      let f : first t.it.name ss ≡ some s = ap (λ (n : List ℕ). first n ss) (sym i.name) ∙ firsts-first ss s m in
      Memᴰ.append_left (each only (firsts ss))
      (from_each back (firsts ts) (turned c) t i.there
      (subst (λ (o : Option (At Named)). Memᴰ (turned c) (value_change t o)) (sym f)
      (subst (λ (b : Bool). Memᴰ (turned c) (pick b [] (value t.index s.index ∷ []))) (eqb-turn s.it.value t.it.value)
      (one-turn (eqb s.it.value t.it.value) (value s.index t.index) c k))))

  new-turn : (t : At Named) → Memᴰ t (firsts ts) → (o : Option (At Named)) → first t.it.name ss ≡ o → Memᴰ c (only_new t o)
      → Memᴰ (turned c) (each back (firsts ts) ++ each only (firsts ss))
  unfolding turned
  new-turn t m none e k =
      Memᴰ.append_left (each only (firsts ss))
      (from_each back (firsts ts) (turned c) t m
      (subst (λ (o : Option (At Named)). Memᴰ (turned c) (value_change t o)) (sym e) (alone (symbol newer t.index) (symbol older t.index) c refl k)))
  new-turn t m (some s) e k = elim k [ ]

  pub symbol-turn : Memᴰ c (symbol_changes ss ts) → Memᴰ (turned c) (symbol_changes ts ss)
  unfolding symbol_changes
  symbol-turn m = step (Memᴰ.append_cases (each (λ (s : At Named). value_change s (first s.it.name ts)) (firsts ss)) m)
    where
      step : Memᴰ c (each (λ (s : At Named). value_change s (first s.it.name ts)) (firsts ss)) ⊎ Memᴰ c (each (λ (t : At Named). only_new t (first t.it.name ss)) (firsts ts))
          → Memᴰ (turned c) (each back (firsts ts) ++ each only (firsts ss))
      step (inl k) = let g = each_from (λ (s : At Named). value_change s (first s.it.name ts)) (firsts ss) c k in old-turn g.it g.there (first g.it.it.name ts) refl g.gives
      step (inr k) = let g = each_from (λ (t : At Named). only_new t (first t.it.name ss)) (firsts ts) c k in new-turn g.it g.there (first g.it.it.name ss) refl g.gives

-- of a row of the one list the turned row stands in the other
pub turned-there : (a b : Module) (c : Change) → Memᴰ c (changes a b) → Memᴰ (turned c) (changes b a)
unfolding changes
turned-there a b c m =
    both c (paired (area_change a b) 0 (images a) (images b)) (paired-turn (area_change a b) (area_change b a) c (area-turn a b c) 0 (images a) (images b))
    (symbol-turn (symbols_of a) (symbols_of b) c) m

-- the two texts turned round: the same rows with the sides exchanged
pub turned_round : (a b : Module) (c : Change) → Memᴰ c (changes a b) ↔ Memᴰ (turned c) (changes b a)
turned_round a b c = (turned-there a b c, λ m. Memᴰ.cast (sym (turned-twice c)) (turned-there b a (turned c) m))
