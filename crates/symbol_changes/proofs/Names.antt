-- The laws of the symbols.
-- Assumes nothing.
use Prim.Native.Nat.{ℕ, suc, ◌+◌, ◌-◌, ◌<◌, ◌≤◌}
use mathlib.Core.Path.{◌≡◌, refl, ap, subst, sym, ◌∙◌}
use mathlib.Core.Bool.{Bool, true, false}
use mathlib.Core.List.{List, [], ◌∷◌, ◌++◌}
use mathlib.Core.Option.{none, some}
use native.Mathlib.Omega.{arith}
use native.Mathlib.Numerals.{add-one}
use lib.ListN.{replicate}
use lib.Dec.{eqb, leb}
use borrow.Author.Rules.{rules}
use borrow.Author.Tests.{eq-eqb, ne_eqb, lt-ltb, le-ltb, leb-true, leb-false}
use Rattle.format.specs.Lists.{pick}
use Rattle.laws.specs.Rows.{symbol_at}
use Rattle.row_parts.specs.Parts.{name_in}
use Rattle.alike.specs.Looked.{first_of}
use Rattle.name_index.specs.Index.{found_in, indexed, name_at, named_at}
use Rattle.name_index.proofs.Indexed.{the-index-finds-the-first}
use Rattle.difference.specs.Changes.{Change, newer, older, only_new, symbol, value, value_change}
use Rattle.difference.specs.Rows.{change_numbers}
use Rattle.change_rows.specs.Room.{few_of}
use Rattle.change_rows.proofs.Room.{few-all, few-is, walk-left, walk-taken}
use Rattle.change_rows.specs.Walk.{Put, Walked, WalkedIf}
use Rattle.symbol_sides.specs.Sides.{on_one_side}
use Rattle.symbol_changes.specs.Here.{first_in, gathered, is_first, new_here, old_here, symbol_here, value_here}
use Rattle.change_rows.proofs.Going.{Going, going_end, going_start, going_step, no_row, one-row, put-added, walked_both}

-- `values`
module _ (xs : List ℕ) (i : ℕ) (ys : List ℕ) (j : ℕ) (w : Bool) (list : List ℕ) (n : ℕ) {b : Bool} (e : b ≡ eqb (symbol_at xs i).value (symbol_at ys j).value) where
  pub values_same : b ≡ true → Walked w list n (value_here xs i ys j) 1 n list
  unfolding value_here
  values_same g = no_row w list n (value_here xs i ys j) 1 (ap (λ (c : Bool). pick c [] (value i j ∷ [])) (sym e ∙ g))

  pub values_other : b ≡ false → n < 4294967296 → {o x y u v z : ℕ} {r : ℕ} {after : List ℕ} → Put w list n (7 ∷ o ∷ x ∷ y ∷ u ∷ v ∷ z ∷ 0 ∷ []) r after → x ≡ i → y ≡ j → o ≡ 0 → u ≡ 0 → v ≡ 0 → z ≡ 0 → Walked w list n (value_here xs i ys j) 1 r after
  unfolding value_here change_numbers
  values_other g low h p q a b c d = one-row (put-added low h) (value i j) (rw (p, q, a, b, c, d)) (value_here xs i ys j) (ap (λ (c : Bool). pick c [] (value i j ∷ [])) (sym e ∙ g))

pub ruleset sames = (rules, values_same, values_other)

-- what the index finds
module _ (text symbols : List ℕ) (n : ℕ) {index : List ℕ} (made : index ≡ indexed text symbols n (replicate 4096 0)) (low : n ≤ 1024) where
  found-is : (name : List ℕ) {j : ℕ} → j ≡ found_in name text symbols n index → j ≡ first_of (named_at name text symbols) n
  found-is name e = e ∙ (ap (found_in name text symbols n) made ∙ the-index-finds-the-first text symbols name n 4096 (omega arith))

-- the first of a name on the other side
module _ (name text symbols : List ℕ) (n : ℕ) {j : ℕ} (e : j ≡ first_of (named_at name text symbols) n) where
  first-there : j < n → first_in name text symbols n ≡ some (symbol_here text symbols j)
  unfolding first_in
  first-there h = rw (← e, lt-ltb j n h)

  first-none : n ≤ j → first_in name text symbols n ≡ none
  unfolding first_in
  first-none h = rw (← e, le-ltb j n h)

-- `old_symbol`
module _ (s xs : List ℕ) (m : ℕ) (t ys : List ℕ) (n i : ℕ) (w : Bool) (list : List ℕ) (count : ℕ)
    {index other : List ℕ} (p : index ≡ indexed s xs m (replicate 4096 0)) (q : other ≡ indexed t ys n (replicate 4096 0)) (l : m ≤ 1024) (k : n ≤ 1024)
    {name : List ℕ} (e : name ≡ name_in s (symbol_at xs i).name) {x : ℕ} (f : x ≡ found_in name s xs m index) where
  named-is : name ≡ name_at s xs i
  unfolding name_at
  named-is = e

  x-is : x ≡ first_of (named_at (name_at s xs i) s xs) m
  x-is = found-is s xs m p l name f ∙ ap (λ (z : List ℕ). first_of (named_at z s xs) m) named-is

  later : (x ≡ i → ⊥) → is_first s xs m i ≡ false
  unfolding is_first
  later h = ne_eqb (first_of (named_at (name_at s xs i) s xs) m) i (λ z. h (x-is ∙ z))

  pub old-later : (x ≡ i → ⊥) → Walked w list count (old_here s xs m t ys n i) 1 count list
  unfolding old_here
  old-later h = no_row w list count (old_here s xs m t ys n i) 1 (rw (later h))

  module _ (g : x ≡ i) {j : ℕ} (h : j ≡ found_in name t ys n other) where
    is-first : is_first s xs m i ≡ true
    unfolding is_first
    is-first = eq-eqb (first_of (named_at (name_at s xs i) s xs) m) i (sym x-is ∙ g)

    j-is : j ≡ first_of (named_at (name_at s xs i) t ys) n
    j-is = found-is t ys n q k name h ∙ ap (λ (z : List ℕ). first_of (named_at z t ys) n) named-is

    old-there : j < n → old_here s xs m t ys n i ≡ value_here xs i ys j
    unfolding old_here value_here symbol_here
    old-there u = ap (λ (b : Bool). pick b (value_change (symbol_here s xs i) (first_in (name_at s xs i) t ys n)) []) is-first ∙ ap (value_change (symbol_here s xs i)) (first-there (name_at s xs i) t ys n j-is u)

    old-gone : n ≤ j → old_here s xs m t ys n i ≡ symbol older i ∷ []
    unfolding old_here symbol_here
    old-gone u = ap (λ (b : Bool). pick b (value_change (symbol_here s xs i) (first_in (name_at s xs i) t ys n)) []) is-first ∙ ap (value_change (symbol_here s xs i)) (first-none (name_at s xs i) t ys n j-is u)

    pub old-both : j < n → {r : ℕ} {after : List ℕ} → Walked w list count (value_here xs i ys j) 1 r after → Walked w list count (old_here s xs m t ys n i) 1 r after
    old-both u {r} {after} a = subst (λ (cs : List Change). Walked w list count cs 1 r after) (sym (old-there u)) a

    pub old-only : n ≤ j → count < 4294967296 → {o y a b c d : ℕ} {r : ℕ} {after : List ℕ} → Put w list count (8 ∷ o ∷ y ∷ a ∷ b ∷ c ∷ d ∷ 0 ∷ []) r after → y ≡ i → o ≡ 0 → a ≡ 0 → b ≡ 0 → c ≡ 0 → d ≡ 0 → Walked w list count (old_here s xs m t ys n i) 1 r after
    unfolding change_numbers
    old-only u low v z p0 p1 p2 p3 p4 = one-row (put-added low v) (symbol older i) (rw (z, p0, p1, p2, p3, p4)) (old_here s xs m t ys n i) (old-gone u)

pub ruleset olds = (rules, old-later, old-both)

pub ruleset onlys = (rules, old-only)

-- `new_symbol`
module _ (s xs : List ℕ) (m : ℕ) (t ys : List ℕ) (n i : ℕ) (w : Bool) (list : List ℕ) (count : ℕ)
    {index other : List ℕ} (p : index ≡ indexed s xs m (replicate 4096 0)) (q : other ≡ indexed t ys n (replicate 4096 0)) (l : m ≤ 1024) (k : n ≤ 1024) where
  abbrev there : ℕ
  there = first_of (named_at (name_at s xs i) t ys) n

  sides : on_one_side s xs m index t ys n other i ≡ pick (is_first s xs m i) (leb n there) false
  unfolding on_one_side is_first
  sides =
      ap (λ (x : ℕ). pick (eqb x i) (leb n (found_in (name_at s xs i) t ys n other)) false) (found-is s xs m p l (name_at s xs i) refl)
      ∙ ap (λ (x : ℕ). pick (eqb (first_of (named_at (name_at s xs i) s xs) m) i) (leb n x) false) (found-is t ys n q k (name_at s xs i) refl)

  new_by : (c d : Bool) → is_first s xs m i ≡ c → leb n there ≡ d → new_here s xs m t ys n i ≡ pick (pick c d false) (symbol newer i ∷ []) []
  unfolding new_here symbol_here
  new_by false d x y = ap (λ (b : Bool). pick b (only_new (symbol_here s xs i) (first_in (name_at s xs i) t ys n)) []) x
  new_by true true x y = ap (λ (b : Bool). pick b (only_new (symbol_here s xs i) (first_in (name_at s xs i) t ys n)) []) x ∙ ap (only_new (symbol_here s xs i)) (first-none (name_at s xs i) t ys n refl (leb-true n there y))
  new_by true false x y = ap (λ (b : Bool). pick b (only_new (symbol_here s xs i) (first_in (name_at s xs i) t ys n)) []) x ∙ ap (only_new (symbol_here s xs i)) (first-there (name_at s xs i) t ys n refl (leb-false n there y))

  module _ {b : Bool} (e : b ≡ on_one_side s xs m index t ys n other i) where
    new_is : new_here s xs m t ys n i ≡ pick b (symbol newer i ∷ []) []
    new_is = new_by (is_first s xs m i) (leb n there) refl refl ∙ ap (λ (c : Bool). pick c (symbol newer i ∷ []) []) (sym (e ∙ sides))

    pub new-not : b ≡ false → Walked w list count (new_here s xs m t ys n i) 1 count list
    new-not g = no_row w list count (new_here s xs m t ys n i) 1 (new_is ∙ ap (λ (c : Bool). pick c (symbol newer i ∷ []) []) g)

    pub new-only : b ≡ true → count < 4294967296 → {o y a d f h : ℕ} {r : ℕ} {after : List ℕ} → Put w list count (9 ∷ o ∷ a ∷ y ∷ d ∷ f ∷ h ∷ 0 ∷ []) r after → y ≡ i → o ≡ 0 → a ≡ 0 → d ≡ 0 → f ≡ 0 → h ≡ 0 → Walked w list count (new_here s xs m t ys n i) 1 r after
    unfolding change_numbers
    new-only g low v z p0 p1 p2 p3 p4 = one-row (put-added low v) (symbol newer i) (rw (z, p0, p1, p2, p3, p4)) (new_here s xs m t ys n i) (new_is ∙ ap (λ (c : Bool). pick c (symbol newer i ∷ []) []) g)

pub ruleset news = (rules, new-not, new-only)

-- the loops
pub record Gathering (g : ℕ → List Change) (m : ℕ) (w : Bool) (first : List ℕ) (n₀ : ℕ) (list : List ℕ) (n i : ℕ) : Type 0 where
  pub going : Going w first n₀ (gathered g 0 m) i list n (gathered g i (m - i))
  pub inside : i ≤ m
  pub low : m ≤ 1024

module _ (g : ℕ → List Change) (m : ℕ) (w : Bool) (first : List ℕ) (n₀ : ℕ) where
  pub gather-start : m ≤ 1024 → Gathering g m w first n₀ first n₀ 0
  gather-start h = record {
    going = subst (λ (x : ℕ). Going w first n₀ (gathered g 0 m) 0 first n₀ (gathered g 0 x)) (omega arith) (going_start w first n₀ (gathered g 0 m));
    inside = omega arith;
    low = h;
  }

  module _ {list : List ℕ} {n i : ℕ} (a : Gathering g m w first n₀ list n i) where
    pub gather-end : m ≤ i → Walked w first n₀ (gathered g 0 m) 1024 n list
    unfolding gathered
    gather-end h = let z : m - i ≡ 0 = omega arith in going_end a.going (rw z) (omega (arith, a.inside, a.low))

    next : i < m → gathered g i (m - i) ≡ g i ++ gathered g (suc i) (m - suc i)
    unfolding gathered
    next h = let z : m - i ≡ suc (m - suc i) = omega arith in ap (gathered g i) z

    pub gather-more : i < m → {r : ℕ} {after : List ℕ} → Walked w list n (g i) 1 r after → Gathering g m w first n₀ after r (i + 1)
    gather-more h {r} {after} b = record {
      going = subst (λ (x : ℕ). Going w first n₀ (gathered g 0 m) (i + 1) after r (gathered g x (m - x))) (sym (add-one i))
          (going_step a.going (g i) (gathered g (suc i) (m - suc i)) (next h) b);
      inside = omega arith;
      low = a.low;
    }

pub ruleset gathers = (rules, gather-start, gather-end, gather-more)

pub ruleset alls = (rules, walked_both)

-- `symbols`
module _ (count m n : ℕ) (w : Bool) (list : List ℕ) (cs : List Change) {x : Bool} (e : x ≡ few_of count m n) where
  pub too_many : x ≡ false → WalkedIf (few_of count m n) w list count cs 2048 count list
  too_many f = walk-left w list count cs 2048 (few_of count m n) (sym e ∙ f)

  pub few-taken : x ≡ true → {r : ℕ} {after : List ℕ} → Walked w list count cs 2048 r after → WalkedIf (few_of count m n) w list count cs 2048 r after
  few-taken f a = walk-taken (few_of count m n) (sym e ∙ f) a

pub ruleset wholes = (rules, too_many, few-taken, few-all)

-- for a caller with few of both
pub the-symbols : {count m n : ℕ} {w : Bool} {list : List ℕ} {cs : List Change} {r : ℕ} {after : List ℕ} → count ≤ 536870912 → m ≤ 1024 → n ≤ 1024
    → WalkedIf (few_of count m n) w list count cs 2048 r after → Walked w list count cs 2048 r after
the-symbols {count} {m} {n} h k l a = a.taken (few-is count m n h k l)
