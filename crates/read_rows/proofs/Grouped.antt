-- Grouping by area loses no fixup: each lies in a kept area.
-- Assumes nothing.
use Prim.Native.Nat.{ℕ, zero, suc, ◌+◌, ◌<◌, ◌≤◌}
use mathlib.Core.Path.{◌≡◌, refl, ap, sym, ◌∙◌}
use mathlib.Core.Bool.{Bool, true, false}
use mathlib.Core.List.{List, [], ◌∷◌, ◌++◌}
use mathlib.Core.Option.{Option, none, some}
use native.Mathlib.Omega.{arith}
use lib.ListN.{length, length-append}
use lib.Dec.{eqb}
use borrow.Author.Tests.{eqb-true, eqb-false}
use Rattle.format.specs.Lists.{pick}
use Rattle.format.specs.Header.{Form}
use Rattle.format.specs.Pairs.{Content, Pair, Relocation, placed, skipped}
use Rattle.format.specs.Records.{Taken}
use Rattle.format.specs.Tables.{Area, Tables, kept, kept_count, rank}
use Rattle.format.specs.Fixups.{Fixup, by_area, of_area}
use Rattle.format.specs.Outcome.{fine}
use Rattle.format.specs.Placing.{State, placing}
use Rattle.laws.specs.PairRows.{all_rows, pair_rows, pair_rows_for, rows_in}
use Rattle.laws.proofs.Placing.{of-append, pair-rows-for, placing-rows}

-- lists one behind the other
by_append : (n id : ℕ) (xs ys : List Fixup) → length (by_area n id (xs ++ ys)) ≡ length (by_area n id xs) + length (by_area n id ys)
unfolding by_area
by_append zero id xs ys = refl
by_append (suc n) id xs ys =
    length-append (of_area id (xs ++ ys)) (by_area n (suc id) (xs ++ ys))
    ∙ omega (
      arith,
      ap length (of-append id xs ys) ∙ length-append (of_area id xs) (of_area id ys),
      by_append n (suc id) xs ys,
      length-append (of_area id xs) (by_area n (suc id) xs),
      length-append (of_area id ys) (by_area n (suc id) ys),
    )

none-by : (n id : ℕ) → length (by_area n id []) ≡ 0
unfolding by_area of_area
none-by zero id = refl
none-by (suc n) id = none-by n (suc id)

-- rows that all lie in one area
module _ (h : ℕ) (xs : List Fixup) (all : (id : ℕ) → of_area id xs ≡ pick (eqb h id) xs []) where
  of-with : (id : ℕ) (b : Bool) → eqb h id ≡ b → length (of_area id xs) ≡ pick b (length xs) 0
  of-with id true e = ap length (all id) ∙ ap (λ (b : Bool). length (pick b xs [])) e
  of-with id false e = ap length (all id) ∙ ap (λ (b : Bool). length (pick b xs [])) e

  by-below : (n id : ℕ) → h < id → length (by_area n id xs) ≡ 0
  unfolding by_area
  by-below zero id l = refl
  by-below (suc n) id l = step (eqb h id) refl (by-below n (suc id) (omega arith))
    where
      step : (b : Bool) → eqb h id ≡ b → length (by_area n (suc id) xs) ≡ 0 → length (of_area id xs ++ by_area n (suc id) xs) ≡ 0
      step true e r = absurd (omega (arith, eqb-true h id e))
      step false e r = omega (arith, length-append (of_area id xs) (by_area n (suc id) xs), of-with id false e, r)

  by-there : (n id : ℕ) → id ≤ h → h < id + n → length (by_area n id xs) ≡ length xs
  unfolding by_area
  by-there zero id l u = absurd (omega arith)
  by-there (suc n) id l u = step (eqb h id) refl (λ g. by-there n (suc id) g (omega arith))
    where
      step : (b : Bool) → eqb h id ≡ b → (suc id ≤ h → length (by_area n (suc id) xs) ≡ length xs) → length (of_area id xs ++ by_area n (suc id) xs) ≡ length xs
      step true e r =
          let z : length (by_area n (suc id) xs) ≡ 0 = by-below n (suc id) (omega (arith, eqb-true h id e)) in
          omega (arith, length-append (of_area id xs) (by_area n (suc id) xs), of-with id true e, z)
      step false e r =
          let z : length (by_area n (suc id) xs) ≡ length xs = r (omega (arith, eqb-false h id e)) in
          omega (arith, length-append (of_area id xs) (by_area n (suc id) xs), of-with id false e, z)

-- an id is below the count of kept areas
rank-with : (b : Bool) (a : Area) (k h : ℕ) (rest : List Area) → kept a ≡ b → pick b (some k) none ≡ some h → h < k + (pick b 1 0 + kept_count rest)
rank-with true a k h rest e g = let z : k ≡ h = cc in omega (arith, z)
rank-with false a k h rest e g = let z : ◌≡◌ {A = ℕ} 0 1 = cc in absurd (omega arith)

rank-low : (k : ℕ) (areas : List Area) (i h : ℕ) → rank k areas i ≡ some h → h < k + kept_count areas
unfolding rank kept_count
rank-low k [] i h g = let z : ◌≡◌ {A = ℕ} 0 1 = cc in absurd (omega arith)
rank-low k (a ∷ rest) zero h g = rank-with (kept a) a k h rest refl g
rank-low k (a ∷ rest) (suc i) h g = omega (arith, rank-low (k + pick (kept a) 1 0) rest i h g)

-- a pair's rows
pair-grouped : (fm : Form) (t : Tables) (place : ℕ) (b : Pair) → length (by_area (kept_count t.areas) 0 (pair_rows fm t place b)) ≡ length (pair_rows fm t place b)
pair-grouped fm t place skipped = none-by (kept_count t.areas) 0
pair-grouped fm t place (placed c r) = step (rank 0 t.areas r.area) refl
  where
    step : (o : Option ℕ) → rank 0 t.areas r.area ≡ o → length (by_area (kept_count t.areas) 0 (rows_in fm t place c r (rank 0 t.areas r.area))) ≡ length (rows_in fm t place c r (rank 0 t.areas r.area))
    step none e = ap (λ (x : Option ℕ). length (by_area (kept_count t.areas) 0 (rows_in fm t place c r x))) e ∙ (none-by (kept_count t.areas) 0 ∙ sym (ap (λ (x : Option ℕ). length (rows_in fm t place c r x)) e))
    step (some h) e =
        by-there h (rows_in fm t place c r (rank 0 t.areas r.area)) (λ id. pair-rows-for fm t id place (placed c r) ∙ every id) (kept_count t.areas) 0 (omega arith) (omega (arith, rank-low 0 t.areas r.area h e))
      where
        every : (id : ℕ) → pair_rows_for fm t id place (placed c r) ≡ pick (eqb h id) (rows_in fm t place c r (rank 0 t.areas r.area)) []
        every id = rw e

all-grouped : (fm : Form) (t : Tables) (ps : List (Taken Pair)) → length (by_area (kept_count t.areas) 0 (all_rows fm t ps)) ≡ length (all_rows fm t ps)
unfolding all_rows
all-grouped fm t [] = none-by (kept_count t.areas) 0
all-grouped fm t (p ∷ ps) =
    by_append (kept_count t.areas) 0 (pair_rows fm t p.place p.body) (all_rows fm t ps)
    ∙ omega (arith, pair-grouped fm t p.place p.body, all-grouped fm t ps, length-append (pair_rows fm t p.place p.body) (all_rows fm t ps))

pub grouping-loses-none : (fm : Form) (t : Tables) (ps : List (Taken Pair)) (s : State) → placing fm t ps ≡ fine s → length (by_area (kept_count t.areas) 0 s.fixups) ≡ length s.fixups
grouping-loses-none fm t ps s h =
    let e : s.fixups ≡ all_rows fm t ps = placing-rows fm t ps s h in
    ap (λ (xs : List Fixup). length (by_area (kept_count t.areas) 0 xs)) e ∙ (all-grouped fm t ps ∙ sym (ap length e))
