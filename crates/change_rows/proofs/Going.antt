-- Rows one behind the other: what was added, and what is still to come.
-- Assumes nothing.
use Prim.Native.Nat.{ℕ, suc, ◌+◌, ◌*◌, ◌<◌, ◌≤◌}
use native.Mathlib.Nat.{add-zero, add-suc, suc-add}
use mathlib.Core.Path.{◌≡◌, refl, ap, sym, ◌∙◌}
use mathlib.Core.Bool.{Bool, true, false}
use mathlib.Core.List.{List, [], ◌∷◌, ◌++◌, append_assoc, append-nil}
use mathlib.Core.Option.{none, some}
use native.Mathlib.Omega.{arith}
use lib.ListN.{length, set, length-append}
use lib.Seq.{sets, length-sets}
use lib.Dec.{ltb}
use borrow.Author.Rules.{rules}
use borrow.Author.Tests.{lt-ltb, le-ltb}
use Rattle.format.specs.Lists.{flat, pick}
use Rattle.difference.specs.Changes.{Change, area, fixup, newer, older, position, symbol, value}
use Rattle.difference.specs.Rows.{change_columns, change_numbers}
use Rattle.change_rows.specs.Walk.{Added, Put, Walked, laid, stored}

-- stores one behind the other
sets-append : (xs ys l : List ℕ) (i : ℕ) → sets l i (xs ++ ys) ≡ sets (sets l i xs) (i + length xs) ys
sets-append [] ys l i = ap (λ (k : ℕ). sets l k ys) (sym (add-zero i))
sets-append (x ∷ xs) ys l i = sets-append xs ys (set l i x) (suc i) ∙ ap (λ (k : ℕ). sets (sets (set l i x) (suc i) xs) k ys) (suc-add i (length xs) ∙ sym (add-suc i (length xs)))

flat_append : (cs ds : List Change) → flat change_numbers (cs ++ ds) ≡ flat change_numbers cs ++ flat change_numbers ds
unfolding flat
flat_append [] ds = refl
flat_append (c ∷ cs) ds = ap (λ (l : List ℕ). change_numbers c ++ l) (flat_append cs ds) ∙ sym (append_assoc (change_numbers c) (flat change_numbers cs) (flat change_numbers ds))

eight : (c : Change) → length (change_numbers c) ≡ 8
unfolding change_numbers
eight (position id at (some c) (some d)) = refl
eight (position id at (some c) none) = refl
eight (position id at none (some d)) = refl
eight (position id at none none) = refl
eight (fixup older id i) = refl
eight (fixup newer id i) = refl
eight (area older id) = refl
eight (area newer id) = refl
eight (value i j) = refl
eight (symbol older i) = refl
eight (symbol newer i) = refl

pub columns : (cs : List Change) → length (flat change_numbers cs) ≡ 8 * length cs
unfolding flat
columns [] = refl
columns (c ∷ cs) = length-append (change_numbers c) (flat change_numbers cs) ∙ omega (arith, eight c, columns cs)

stored-long : (w : Bool) (list : List ℕ) (n : ℕ) (row : List ℕ) → length (stored w list n row) ≡ length list
unfolding stored
stored-long true list n row = length-sets list (change_columns * n) row
stored-long false list n row = refl

laid-with : (w : Bool) (list : List ℕ) (n : ℕ) (cs ds : List Change) → laid w list n (cs ++ ds) ≡ laid w (laid w list n cs) (n + length cs) ds
unfolding laid stored
laid-with false list n cs ds = refl
laid-with true list n cs ds =
    let e : 8 * n + length (flat change_numbers cs) ≡ 8 * (n + length cs) = omega (arith, columns cs) in
    ap (sets list (8 * n)) (flat_append cs ds)
    ∙ (sets-append (flat change_numbers cs) (flat change_numbers ds) list (8 * n)
    ∙ ap (λ (k : ℕ). sets (sets list (8 * n) (flat change_numbers cs)) k (flat change_numbers ds)) e)

laid_none : (w : Bool) (list : List ℕ) (n : ℕ) → laid w list n [] ≡ list
unfolding laid stored flat
laid_none false list n = refl
laid_none true list n = refl

-- what was added so far, and what is still to come
pub record Going (w : Bool) (first : List ℕ) (n₀ : ℕ) (cs : List Change) (k : ℕ) (list : List ℕ) (n : ℕ) (rest : List Change) : Type 0 where
  pub long : length list ≡ length first
  pub rows : laid w first n₀ cs ≡ laid w list n rest
  pub count : n₀ + length cs ≡ n + length rest
  pub few : n ≤ n₀ + k

pub going_start : (w : Bool) (list : List ℕ) (n : ℕ) (cs : List Change) → Going w list n cs 0 list n cs
going_start w list n cs = record { long = refl; rows = refl; count = refl; few = omega arith }

pub walked-long : {w : Bool} {list : List ℕ} {n : ℕ} {cs : List Change} {k r : ℕ} {after : List ℕ} → Walked w list n cs k r after → length after ≡ length list
unfolding laid
walked-long {w} {list} {n} {cs} h = ap length h.rows ∙ stored-long w list n (flat change_numbers cs)

pub going_step : {w : Bool} {first : List ℕ} {n₀ : ℕ} {cs : List Change} {k : ℕ} {list : List ℕ} {n : ℕ} {rest : List Change} → Going w first n₀ cs k list n rest
    → (piece after : List Change) → rest ≡ piece ++ after → {m r : ℕ} {list' : List ℕ} → Walked w list n piece m r list' → Going w first n₀ cs (k + m) list' r after
going_step {w} {first} {n₀} {cs} {k} {list} {n} {rest} g piece after e {m} {r} {list'} h =
    record {
      long = walked-long h ∙ g.long;
      rows = g.rows ∙ (ap (laid w list n) e ∙ (laid-with w list n piece after ∙ (ap (λ (l : List ℕ). laid w l (n + length piece) after) (sym h.rows) ∙ ap (λ (x : ℕ). laid w list' x after) (sym h.count))));
      count = g.count ∙ (ap (λ (x : List Change). n + length x) e ∙ omega (arith, length-append piece after, h.count));
      few = omega (arith, g.few, h.few);
    }

pub going_end : {w : Bool} {first : List ℕ} {n₀ : ℕ} {cs : List Change} {k : ℕ} {list : List ℕ} {n : ℕ} {rest : List Change} → Going w first n₀ cs k list n rest
    → rest ≡ [] → {m : ℕ} → k ≤ m → Walked w first n₀ cs m n list
going_end {w} {first} {n₀} {cs} {k} {list} {n} {rest} g e {m} l =
    record {
      rows = sym (g.rows ∙ (ap (laid w list n) e ∙ laid_none w list n));
      count = let z : length rest ≡ 0 = ap length e in omega (arith, g.count);
      few = omega (arith, g.few);
    }

-- one row, or none
pub one-row : {w : Bool} {list : List ℕ} {n : ℕ} {row : List ℕ} {r : ℕ} {after : List ℕ} → Added w list n row r after
    → (c : Change) → change_numbers c ≡ row → (cs : List Change) → cs ≡ c ∷ [] → Walked w list n cs 1 r after
unfolding laid flat
one-row {w} {list} {n} {row} a c e cs f =
    record {
      rows = a.rows ∙ sym (ap (λ (x : List Change). stored w list n (flat change_numbers x)) f ∙ ap (stored w list n) (append-nil (change_numbers c) ∙ e));
      count = let z : length cs ≡ 1 = ap length f in omega (arith, a.count);
      few = omega (arith, a.count);
    }

pub no_row : (w : Bool) (list : List ℕ) (n : ℕ) (cs : List Change) (k : ℕ) → cs ≡ [] → Walked w list n cs k n list
no_row w list n cs k f =
    record {
      rows = sym (ap (laid w list n) f ∙ laid_none w list n);
      count = let z : length cs ≡ 0 = ap length f in omega arith;
      few = omega arith;
    }

-- two walks one behind the other
pub walked_both : {w : Bool} {list : List ℕ} {n : ℕ} {cs ds : List Change} {k r : ℕ} {middle : List ℕ} {l q : ℕ} {after : List ℕ}
    → Walked w list n cs k r middle → Walked w middle r ds l q after → {j : ℕ} → k + l ≤ j → Walked w list n (cs ++ ds) j q after
walked_both {w} {list} {n} {cs} {ds} {k} {r} {middle} {l} {q} {after} a b h =
    let one = going_step (going_start w list n (cs ++ ds)) cs ds refl a in
    let two = going_step one ds [] (sym (append-nil ds)) b in
    going_end two refl (omega arith)

-- `store`, `put`
module _ (w : Bool) (list rows : List ℕ) where
  pub store_kept : w ≡ false → list ≡ pick w rows list
  store_kept e = rw e

  pub store-done : w ≡ true → {after : List ℕ} → after ≡ rows → after ≡ pick w rows list
  store-done e f = rw e f

module _ (w : Bool) (list : List ℕ) (n : ℕ) (row : List ℕ) where
  pub put_is : n < 4294967296 → {after : List ℕ} → after ≡ pick w (sets list (8 * n) row) list → Put w list n row (n + 1) after
  unfolding stored
  put_is h e = record { rows = rw (lt-ltb n 4294967296 h) e; count = rw (lt-ltb n 4294967296 h) }

  pub put-past : 4294967296 ≤ n → Put w list n row n list
  put-past h = record { rows = rw (le-ltb n 4294967296 h); count = rw (le-ltb n 4294967296 h) }

pub put-added : {w : Bool} {list : List ℕ} {n : ℕ} {row : List ℕ} {r : ℕ} {after : List ℕ} → n < 4294967296 → Put w list n row r after → Added w list n row r after
put-added {w} {list} {n} {row} h p =
    let e : ltb n 4294967296 ≡ true = lt-ltb n 4294967296 h in
    record { rows = p.rows ∙ ap (λ (b : Bool). pick b (stored w list n row) list) e; count = p.count ∙ ap (λ (b : Bool). pick b (n + 1) n) e }

pub ruleset puts = (rules, store_kept, store-done, put_is, put-past)
