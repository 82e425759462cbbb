-- The walks together give what changed.
-- Assumes nothing.
use Prim.Native.Nat.{ℕ, zero, suc, ◌+◌, ◌<◌, ◌≤◌}
use native.Mathlib.Nat.{add-suc, suc-add}
use mathlib.Core.Path.{◌≡◌, refl, ap, subst, sym, ◌∙◌}
use mathlib.Core.Bool.{Bool, true, false, not}
use mathlib.Core.List.{List, [], ◌∷◌, ◌++◌}
use mathlib.Core.Option.{Option, none, some}
use native.Mathlib.Omega.{arith}
use lib.Dec.{eqb, ltb}
use borrow.Author.Tests.{eq-eqb, ne_eqb, lt-ltb, le-ltb, ltb-false}
use Rattle.format.specs.Lists.{pick}
use Rattle.laws.specs.Rows.{areas_in, fixups_in, from, symbol_at, symbols_in}
use Rattle.row_parts.specs.Ranges as rows
use Rattle.alike.specs.Looked.{first_of}
use Rattle.name_index.specs.Index.{name_at, named_at}
use Rattle.difference.specs.Module as the
use Rattle.difference.specs.Module.{At, Cell, Module, Named, cells, first, firsts, images, named, numbered, passing, same_numbers, sizes, split, symbols_of}
use Rattle.difference.specs.Changes.{Change, area_change, changes, each, lacking, only_new, paired, symbol_changes, value_change}
use Rattle.difference.proofs.Lists.{same_refl}
use Rattle.change_rows.specs.Walk.{Walked}
use Rattle.area_changes.specs.Here.{area_here}
use Rattle.symbol_changes.specs.Here.{first_in, gathered, is_first, new_here, old_here, symbol_here}
use Rattle.fixup_changes.specs.Here.{lacking_in}
use Rattle.read_rows.specs.Rows.{module_in}
use Rattle.change_rows.proofs.Going.{walked_both}

-- the areas
paired_same : (f g : ℕ → Option (List Cell) → Option (List Cell) → List Change) → ((i : ℕ) (x y : Option (List Cell)) → f i x y ≡ g i x y) → (i : ℕ) (xs ys : List (List Cell)) → paired f i xs ys ≡ paired g i xs ys
unfolding paired
paired_same f g h i [] [] = refl
paired_same f g h i (x ∷ xs) [] = rw (h i (some x) none, paired_same f g h (suc i) xs [])
paired_same f g h i [] (y ∷ ys) = rw (h i none (some y), paired_same f g h (suc i) [] ys)
paired_same f g h i (x ∷ xs) (y ∷ ys) = rw (h i (some x) (some y), paired_same f g h (suc i) xs ys)

area_same : (a b : Module) (i : ℕ) (x y : Option (List Cell)) → area_change a b i x y ≡ area_here a.text a.fixups b.text b.fixups i x y
unfolding area_change area_here lacking lacking_in the.fixups_in
area_same a b i (some c) (some d) = refl
area_same a b i (some c) none = refl
area_same a b i none (some d) = refl
area_same a b i none none = refl

-- the first of a name
module _ (name text symbols : List ℕ) where
  abbrev test : ℕ → Bool
  test k = named_at name text symbols k

  first-from : (j m : ℕ) → first name (numbered j (named text (from (symbol_at symbols) j m)))
      ≡ pick (ltb (rows.passing (λ (k : ℕ). not (test k)) j m) (j + m)) (some (symbol_here text symbols (rows.passing (λ (k : ℕ). not (test k)) j m))) none
  unfolding first numbered named from rows.passing named_at name_at symbol_here
  first-from j zero = let z : ltb j (j + 0) ≡ false = le-ltb j (j + 0) (omega arith) in rw z
  first-from j (suc m) = step (test j) refl (first-from (suc j) m)
    where
      step : (b : Bool) → test j ≡ b
          → first name (numbered (suc j) (named text (from (symbol_at symbols) (suc j) m)))
          ≡ pick (ltb (rows.passing (λ (k : ℕ). not (test k)) (suc j) m) (suc j + m)) (some (symbol_here text symbols (rows.passing (λ (k : ℕ). not (test k)) (suc j) m))) none
          → pick b (some (symbol_here text symbols j)) (first name (numbered (suc j) (named text (from (symbol_at symbols) (suc j) m))))
          ≡ pick (ltb (pick (not b) (rows.passing (λ (k : ℕ). not (test k)) (suc j) m) j) (j + suc m)) (some (symbol_here text symbols (pick (not b) (rows.passing (λ (k : ℕ). not (test k)) (suc j) m) j))) none
      step true e h = let z : ltb j (j + suc m) ≡ true = lt-ltb j (j + suc m) (omega arith) in rw z
      step false e h =
          h ∙ ap (λ (n : ℕ). pick (ltb (rows.passing (λ (k : ℕ). not (test k)) (suc j) m) n) (some (symbol_here text symbols (rows.passing (λ (k : ℕ). not (test k)) (suc j) m))) none) (suc-add j m ∙ sym (add-suc j m))

  first-is : (n : ℕ) → first name (numbered 0 (named text (symbols_in symbols n))) ≡ first_in name text symbols n
  unfolding first_in first_of symbols_in
  first-is n = first-from 0 n ∙ ap (λ (k : ℕ). pick (ltb (rows.passing (λ (k : ℕ). not (test k)) 0 n) k) (some (symbol_here text symbols (rows.passing (λ (k : ℕ). not (test k)) 0 n))) none) (omega arith)

-- the first of each name, as a test of the whole list
abbrev has_index : Option (At Named) → ℕ → Bool
has_index none i = false
has_index (some s) i = eqb s.index i

first_one : List (At Named) → At Named → Bool
first_one ss t = has_index (first t.it.name ss) t.index

module _ (i : ℕ) (x : Named) (rest : List (At Named)) where
  abbrev one : At Named
  one = record { index = i; it = x }

  abbrev other : At Named → Bool
  other t = not (same_numbers t.it.name x.name)

  -- what is the first behind one: it has another name, and is the first of what is left
  one_more : (t : At Named) → i < t.index → (b : Bool) → same_numbers t.it.name x.name ≡ b → first_one (one ∷ rest) t ≡ pick b false (first_one rest t)
  unfolding first_one first
  one_more t h true e = rw (e, ne_eqb i t.index (λ z. omega (arith, z)))
  one_more t h false e = rw e

  pass-both : (t : At Named) (p q : List (At Named)) (b c : Bool) → same_numbers t.it.name x.name ≡ b → passing other p ≡ q
      → passing other (pick c (t ∷ p) p) ≡ pick (pick b false c) (t ∷ q) q
  unfolding passing
  pass-both t p q true true e h = rw e h
  pass-both t p q true false e h = h
  pass-both t p q false true e h = rw (e, h)
  pass-both t p q false false e h = h

  agree : (j : ℕ) (ns : List Named) → i < j → passing other (passing (first_one rest) (numbered j ns)) ≡ passing (first_one (one ∷ rest)) (numbered j ns)
  unfolding passing numbered
  agree j [] h = refl
  agree j (y ∷ ns) h =
      let t : At Named = record { index = j; it = y } in
      pass-both t (passing (first_one rest) (numbered (suc j) ns)) (passing (first_one (one ∷ rest)) (numbered (suc j) ns)) (same_numbers y.name x.name) (first_one rest t) refl (agree (suc j) ns (omega arith))
      ∙ ap (λ (b : Bool). pick b (t ∷ passing (first_one (one ∷ rest)) (numbered (suc j) ns)) (passing (first_one (one ∷ rest)) (numbered (suc j) ns))) (sym (one_more t h (same_numbers y.name x.name) refl))

  one-first : first_one (one ∷ rest) one ≡ true
  unfolding first_one first
  one-first = rw (same_refl x.name, eq-eqb i i refl)

firsts-are : (i : ℕ) (ns : List Named) → firsts (numbered i ns) ≡ passing (first_one (numbered i ns)) (numbered i ns)
unfolding firsts numbered passing
firsts-are i [] = refl
firsts-are i (x ∷ ns) =
    let ss = numbered (suc i) ns in
    let s : At Named = record { index = i; it = x } in
    ap (λ (l : List (At Named)). s ∷ passing (λ (t : At Named). not (same_numbers t.it.name x.name)) l) (firsts-are (suc i) ns)
    ∙ (ap (λ (l : List (At Named)). s ∷ l) (agree i x ss (suc i) ns (omega arith))
    ∙ ap (λ (b : Bool). pick b (s ∷ passing (first_one (s ∷ ss)) ss) (passing (first_one (s ∷ ss)) ss)) (sym (one-first i x ss)))

-- each of the rows that pass, index by index
module _ (text symbols : List ℕ) (f : At Named → List Change) (p : At Named → Bool) where
  each-with : (b : Bool) (x : At Named) (rest : List (At Named)) → each f (pick b (x ∷ rest) rest) ≡ pick b (f x) [] ++ each f rest
  unfolding each
  each-with true x rest = refl
  each-with false x rest = refl

  each-gathered : (i m : ℕ) → each f (passing p (numbered i (named text (from (symbol_at symbols) i m)))) ≡ gathered (λ (k : ℕ). pick (p (symbol_here text symbols k)) (f (symbol_here text symbols k)) []) i m
  unfolding each passing numbered named from gathered symbol_here name_at
  each-gathered i zero = refl
  each-gathered i (suc m) =
      each-with (p (symbol_here text symbols i)) (symbol_here text symbols i) (passing p (numbered (suc i) (named text (from (symbol_at symbols) (suc i) m))))
      ∙ ap (λ (l : List Change). pick (p (symbol_here text symbols i)) (f (symbol_here text symbols i)) [] ++ l) (each-gathered (suc i) m)

gathered-same : (g h : ℕ → List Change) (c : ℕ) → ((k : ℕ) → k < c → g k ≡ h k) → (i m : ℕ) → i + m ≤ c → gathered g i m ≡ gathered h i m
unfolding gathered
gathered-same g h c e i zero l = refl
gathered-same g h c e i (suc m) l = rw (e i (omega arith), gathered-same g h c e (suc i) m (omega arith))

-- whether a symbol is the first of its name
first-test : (text symbols : List ℕ) (n k : ℕ) → k < n → first_one (numbered 0 (named text (symbols_in symbols n))) (symbol_here text symbols k) ≡ is_first text symbols n k
unfolding first_one is_first symbol_here first_in
first-test text symbols n k l =
    ap (λ (o : Option (At Named)). has_index o k) (first-is (name_at text symbols k) text symbols n) ∙ with_first (first_of (named_at (name_at text symbols k) text symbols) n) refl
  where
    step : (j : ℕ) (b : Bool) → ltb j n ≡ b → has_index (pick b (some (symbol_here text symbols j)) none) k ≡ eqb j k
    step j true e = refl
    step j false e = sym (ne_eqb j k (λ z. omega (arith, z, ltb-false j n e)))

    with_first : (j : ℕ) → first_of (named_at (name_at text symbols k) text symbols) n ≡ j → has_index (first_in (name_at text symbols k) text symbols n) k ≡ eqb (first_of (named_at (name_at text symbols k) text symbols) n) k
    with_first j e = step (first_of (named_at (name_at text symbols k) text symbols) n) (ltb (first_of (named_at (name_at text symbols k) text symbols) n) n) refl

-- both sides' symbols
module _ (s xs : List ℕ) (m : ℕ) (t ys : List ℕ) (n : ℕ) where
  abbrev olds : List (At Named)
  olds = numbered 0 (named s (symbols_in xs m))

  abbrev news : List (At Named)
  news = numbered 0 (named t (symbols_in ys n))

  side-gathered : (f : At Named → List Change) → each f (firsts olds) ≡ gathered (λ (k : ℕ). pick (is_first s xs m k) (f (symbol_here s xs k)) []) 0 m
  unfolding symbols_in
  side-gathered f =
      ap (each f) (firsts-are 0 (named s (symbols_in xs m)))
      ∙ (each-gathered s xs f (first_one olds) 0 m
      ∙ gathered-same (λ (k : ℕ). pick (first_one olds (symbol_here s xs k)) (f (symbol_here s xs k)) []) (λ (k : ℕ). pick (is_first s xs m k) (f (symbol_here s xs k)) []) m
      (λ k l. ap (λ (b : Bool). pick b (f (symbol_here s xs k)) []) (first-test s xs m k l)) 0 m (omega arith))

  old-gathered : each (λ (x : At Named). value_change x (first x.it.name news)) (firsts olds) ≡ gathered (old_here s xs m t ys n) 0 m
  unfolding old_here symbol_here
  old-gathered =
      side-gathered (λ (x : At Named). value_change x (first x.it.name news))
      ∙ gathered-same (λ (k : ℕ). pick (is_first s xs m k) (value_change (symbol_here s xs k) (first (name_at s xs k) news)) []) (old_here s xs m t ys n) m
      (λ k l. ap (λ (o : Option (At Named)). pick (is_first s xs m k) (value_change (symbol_here s xs k) o) []) (first-is (name_at s xs k) t ys n)) 0 m (omega arith)

  new-gathered : each (λ (x : At Named). only_new x (first x.it.name news)) (firsts olds) ≡ gathered (new_here s xs m t ys n) 0 m
  unfolding new_here symbol_here
  new-gathered =
      side-gathered (λ (x : At Named). only_new x (first x.it.name news))
      ∙ gathered-same (λ (k : ℕ). pick (is_first s xs m k) (only_new (symbol_here s xs k) (first (name_at s xs k) news)) []) (new_here s xs m t ys n) m
      (λ k l. ap (λ (o : Option (At Named)). pick (is_first s xs m k) (only_new (symbol_here s xs k) o) []) (first-is (name_at s xs k) t ys n)) 0 m (omega arith)

-- all that changed
module _ (s p : List ℕ) (a : ℕ) (sx : List ℕ) (c : ℕ) (v k xs : List ℕ) (m : ℕ) (t q : List ℕ) (b : ℕ) (sy : List ℕ) (d : ℕ) (w l ys : List ℕ) (n : ℕ) where
  pub all-changes : changes (module_in s p a sx c v k xs m) (module_in t q b sy d w l ys n)
      ≡ paired (area_here s (fixups_in xs m) t (fixups_in ys n)) 0 (split (sizes (areas_in p a)) (cells v k)) (split (sizes (areas_in q b)) (cells w l))
      ++ (gathered (old_here s sx c t sy d) 0 c ++ gathered (new_here t sy d s sx c) 0 d)
  unfolding changes module_in images symbols_of symbol_changes
  all-changes =
      let x = paired_same (area_change (module_in s p a sx c v k xs m) (module_in t q b sy d w l ys n)) (area_here s (fixups_in xs m) t (fixups_in ys n))
      (area_same (module_in s p a sx c v k xs m) (module_in t q b sy d w l ys n)) 0 (split (sizes (areas_in p a)) (cells v k)) (split (sizes (areas_in q b)) (cells w l)) in
      let y = old-gathered s sx c t sy d in
      let z = new-gathered t sy d s sx c in
      λ e. x e ++ (y e ++ z e)

  pub walk_is : {writing : Bool} {list : List ℕ} {r : ℕ} {middle : List ℕ} {u : ℕ} {after : List ℕ}
      → Walked writing list 0 (paired (area_here s (fixups_in xs m) t (fixups_in ys n)) 0 (split (sizes (areas_in p a)) (cells v k)) (split (sizes (areas_in q b)) (cells w l))) 8650752 r middle
      → Walked writing middle r (gathered (old_here s sx c t sy d) 0 c ++ gathered (new_here t sy d s sx c) 0 d) 2048 u after
      → Walked writing list 0 (changes (module_in s p a sx c v k xs m) (module_in t q b sy d w l ys n)) 8652800 u after
  walk_is {writing} {list} {r} {middle} {u} {after} f g =
      subst (λ (cs : List Change). Walked writing list 0 cs 8652800 u after) (sym all-changes) (walked_both f g (omega arith))
