-- What the proofs of the grouping share: a law for each return, and the loops' invariants.
-- Assumes nothing.
use Prim.Native.Nat.{ℕ, suc, ◌+◌, ◌-◌, ◌*◌, ◌/◌, ◌^◌, ◌≤◌, ◌<◌}
use mathlib.Core.Path.{◌≡◌, refl, sym, ap, ◌∙◌}
use mathlib.Core.Bool.{Bool, true, false}
use mathlib.Core.List.{List, [], ◌∷◌, ◌++◌, append_assoc}
use native.Mathlib.Nat.{add-zero}
use native.Mathlib.Numerals.{add-one}
use native.Mathlib.Omega.{arith}
use mir.Val.{Fits}
use mir.Syntax.{w64}
use lib.Dec.{eqb, leb}
use lib.ListN.{length, get_or, take, drop, length-append}
use lib.Seq.{sets, sets-eq, length-sets}
use borrow.Author.Rules.{rules}
use borrow.Author.Tests.{eq-eqb, ne_eqb, le-leb, lt-leb}
use Rattle.format.specs.Lists.{pick, over, flat}
use Rattle.format.specs.Fixups.{Fixup, of_area, by_area}
use Rattle.format.specs.Rows.{fixup_numbers}
use Rattle.laws.specs.Rows.{from, fixup_from, fixup_row, fixups_in}
use Rattle.laws.proofs.Parts.{part_end}
use Rattle.laws.proofs.Room.{grouped-le, flat-length}
use Rattle.cells.proofs.Laws.{sets-append}
use Rattle.std.specs.Prelude.{Some, None}
use Rattle.grouped.specs.Group.{row_for, area_for, areas_for, Stored, room_for, Regrouped}
use Rattle.grouped.proofs.Rows.{length_from, nine-long, nine-is}

-- ------------------------------------------------------------------ one row

-- `row_to`: h is the row's home as it was read
module _ (rows : List ℕ) (i id : ℕ) (out : List ℕ) (p : ℕ) {h : ℕ} (eh : h ≡ get_or rows (9 * i) 0) where
  home-is : (fixup_row rows i).home ≡ h
  unfolding fixup_row fixup_from
  home-is = sym eh

  pub row-skipped : (h ≡ id → ⊥) → Stored (row_for id (fixup_row rows i)) p out p out
  unfolding row_for
  row-skipped n = record { next = rw (home-is, ne_eqb h id n, add-zero); stored = rw (home-is, ne_eqb h id n) }

  module _ (g : h ≡ id) where
    pub row_fits : (get_or rows (9 * i) 0 ≡ id → p + 9 ≤ length out) → length out < 2 ^ 64 → Fits w64 (p + 9)
    row_fits f l = record { fits = omega (arith, f (sym eh ∙ g)) }

    pub row-taken : 9 * i + 9 ≤ length rows → {out' : List ℕ} → out' ≡ sets out p (take 9 (take (length rows - 9 * i) (drop (9 * i) rows))) → Stored (row_for id (fixup_row rows i)) p out (p + 9) out'
    unfolding row_for fixup_row
    row-taken l e =
        let b : eqb (fixup_from rows (9 * i)).home id ≡ true = rw home-is (eq-eqb h id g) in
        record {
          next = rw (b, nine-long (fixup_from rows (9 * i)));
          stored = rw (b, e, part_end, nine-is rows (9 * i) l);
        }

pub ruleset row = (rules, row-skipped, row-taken, row_fits)

-- ------------------------------------------------------------------ the rows of one area

flat_append : (xs ys : List Fixup) → flat fixup_numbers (xs ++ ys) ≡ flat fixup_numbers xs ++ flat fixup_numbers ys
unfolding flat
flat_append [] ys = refl
flat_append (x ∷ xs) ys = rw (flat_append xs ys) (sym (append_assoc (fixup_numbers x) (flat fixup_numbers xs) (flat fixup_numbers ys)))

area-cons : (id : ℕ) (x : Fixup) (xs : List Fixup) → area_for id (x ∷ xs) ≡ row_for id x ++ area_for id xs
unfolding area_for row_for of_area flat
area-cons id x xs = go (eqb x.home id)
  where
    go : (b : Bool) → flat fixup_numbers (pick b (x ∷ of_area id xs) (of_area id xs)) ≡ pick b (fixup_numbers x) [] ++ flat fixup_numbers (of_area id xs)
    go true = refl
    go false = refl

pub record Grouping (rows : List ℕ) (k id p : ℕ) (out left : List ℕ) (q i : ℕ) : Type 0 where
  pub inside : i ≤ k
  pub total : p + length (area_for id (fixups_in rows k)) ≡ q + length (area_for id (from (fixup_row rows) i (k - i)))
  pub rest : sets out p (area_for id (fixups_in rows k)) ≡ sets left q (area_for id (from (fixup_row rows) i (k - i)))
  pub room : q + length (area_for id (from (fixup_row rows) i (k - i))) ≤ length left
  pub long : length left ≡ length out

pub group-start : (rows : List ℕ) (k id p : ℕ) (out : List ℕ) → p + length (area_for id (fixups_in rows k)) ≤ length out → Grouping rows k id p out out p 0
unfolding fixups_in
group-start rows k id p out h = let z : k - 0 ≡ k = omega arith in record {
  inside = omega arith;
  total = rw z;
  rest = rw z;
  room = rw z h;
  long = refl;
}

module _ {rows : List ℕ} {k id p : ℕ} {out left : List ℕ} {q i : ℕ} (w : Grouping rows k id p out left q i) where
  pub group-end : k ≤ i → Stored (area_for id (fixups_in rows k)) p out q left
  unfolding area_for of_area flat from
  group-end h =
      let z : k - i ≡ 0 = omega arith in
      let e : area_for id (from (fixup_row rows) i (k - i)) ≡ [] = rw z in
      record { next = sym (rw (e, add-zero) at w.total); stored = sym (rw e at w.rest) }

  module _ (h : i < k) where
    ahead : area_for id (from (fixup_row rows) i (k - i)) ≡ row_for id (fixup_row rows i) ++ area_for id (from (fixup_row rows) (suc i) (k - suc i))
    unfolding from
    ahead =
        let z : k - i ≡ suc (k - suc i) = omega arith in
        ap (λ (n : ℕ). area_for id (from (fixup_row rows) i n)) z ∙ area-cons id (fixup_row rows i) (from (fixup_row rows) (suc i) (k - suc i))

    pub group-row : 9 * k ≤ length rows → 9 * i + 9 ≤ length rows
    group-row l = omega arith

    pub group-room : get_or rows (9 * i) 0 ≡ id → q + 9 ≤ length left
    unfolding row_for fixup_row fixup_from
    group-room e =
        let b : row_for id (fixup_row rows i) ≡ fixup_numbers (fixup_row rows i) = rw (eq-eqb (get_or rows (9 * i) 0) id e) in
        omega (arith, w.room, ap length ahead, length-append (row_for id (fixup_row rows i)) (area_for id (from (fixup_row rows) (suc i) (k - suc i))), ap length b, nine-long (fixup_row rows i))

    module _ {r : ℕ} {left' : List ℕ} (s : Stored (row_for id (fixup_row rows i)) q left r left') where
      pub group-more : Grouping rows k id p out left' r (i + 1)
      group-more =
          let n = length-append (row_for id (fixup_row rows i)) (area_for id (from (fixup_row rows) (suc i) (k - suc i))) in
          let l : length left' ≡ length left = rw s.stored (length-sets left q (row_for id (fixup_row rows i))) in
          record {
            inside = omega arith;
            total = rw add-one (omega (arith, w.total, ap length ahead, n, s.next));
            rest = rw (add-one, s.stored, s.next) (w.rest ∙ (ap (λ (z : List ℕ). sets left q z) ahead ∙ sets-append left q (row_for id (fixup_row rows i)) (area_for id (from (fixup_row rows) (suc i) (k - suc i)))));
            room = rw add-one (omega (arith, w.room, ap length ahead, n, s.next, l));
            long = l ∙ w.long;
          }

pub ruleset grouping = (rules, group-start, group-end, group-row, group-room, group-more)

-- ------------------------------------------------------------------ area by area

areas-suc : (n id : ℕ) (xs : List Fixup) → areas_for (suc n) id xs ≡ area_for id xs ++ areas_for n (suc id) xs
unfolding areas_for area_for by_area
areas-suc n id xs = flat_append (of_area id xs) (by_area n (suc id) xs)

pub areas-le : (rows : List ℕ) (k n : ℕ) → length (areas_for n 0 (fixups_in rows k)) ≤ 9 * k
unfolding areas_for fixups_in
areas-le rows k n = omega (arith, flat-length fixup_numbers 9 nine-long (by_area n 0 (from (fixup_row rows) 0 k)), grouped-le n (from (fixup_row rows) 0 k), length_from (fixup_row rows) 0 k)

pub record Ordering (rows : List ℕ) (k n : ℕ) (out left : List ℕ) (p id : ℕ) : Type 0 where
  pub inside : id ≤ n
  pub total : length (areas_for n 0 (fixups_in rows k)) ≡ p + length (areas_for (n - id) id (fixups_in rows k))
  pub rest : sets out 0 (areas_for n 0 (fixups_in rows k)) ≡ sets left p (areas_for (n - id) id (fixups_in rows k))
  pub room : p + length (areas_for (n - id) id (fixups_in rows k)) ≤ length left
  pub long : length left ≡ length out

pub order-start : (rows : List ℕ) (k n : ℕ) (out : List ℕ) → 9 * k ≤ length out → Ordering rows k n out out 0 0
order-start rows k n out h = let z : n - 0 ≡ n = omega arith in record {
  inside = omega arith;
  total = rw z (omega arith);
  rest = rw z;
  room = rw z (omega (arith, areas-le rows k n));
  long = refl;
}

stored-over : (ys out : List ℕ) → length ys ≤ length out → sets out 0 ys ≡ over ys out
unfolding over
stored-over ys out h = let z : 0 + length ys ≡ length ys = omega arith in sets-eq ys out 0 (omega arith) ∙ rw z

module _ {rows : List ℕ} {k n : ℕ} {out left : List ℕ} {p id : ℕ} (w : Ordering rows k n out left p id) where
  module _ (h : n ≤ id) where
    none_left : areas_for (n - id) id (fixups_in rows k) ≡ []
    unfolding areas_for by_area flat
    none_left = let z : n - id ≡ 0 = omega arith in rw z

    pub order-count : p ≡ length (areas_for n 0 (fixups_in rows k))
    order-count = omega (arith, w.total, ap length none_left)

    pub order-end : 9 * k ≤ length out → left ≡ over (areas_for n 0 (fixups_in rows k)) out
    order-end l = sym (rw none_left at w.rest) ∙ stored-over (areas_for n 0 (fixups_in rows k)) out (omega (arith, areas-le rows k n))

  module _ (h : id < n) where
    ahead-areas : areas_for (n - id) id (fixups_in rows k) ≡ area_for id (fixups_in rows k) ++ areas_for (n - suc id) (suc id) (fixups_in rows k)
    ahead-areas = let z : n - id ≡ suc (n - suc id) = omega arith in ap (λ (m : ℕ). areas_for m id (fixups_in rows k)) z ∙ areas-suc (n - suc id) id (fixups_in rows k)

    pub order-room : p + length (area_for id (fixups_in rows k)) ≤ length left
    order-room = omega (arith, w.room, ap length ahead-areas, length-append (area_for id (fixups_in rows k)) (areas_for (n - suc id) (suc id) (fixups_in rows k)))

    module _ {r : ℕ} {left' : List ℕ} (s : Stored (area_for id (fixups_in rows k)) p left r left') where
      pub order-more : Ordering rows k n out left' r (id + 1)
      order-more =
          let m = length-append (area_for id (fixups_in rows k)) (areas_for (n - suc id) (suc id) (fixups_in rows k)) in
          let l : length left' ≡ length left = rw s.stored (length-sets left p (area_for id (fixups_in rows k))) in
          record {
            inside = omega arith;
            total = rw add-one (omega (arith, w.total, ap length ahead-areas, m, s.next));
            rest = rw (add-one, s.stored, s.next) (w.rest ∙ (ap (λ (z : List ℕ). sets left p z) ahead-areas ∙ sets-append left p (area_for id (fixups_in rows k)) (areas_for (n - suc id) (suc id) (fixups_in rows k))));
            room = rw add-one (omega (arith, w.room, ap length ahead-areas, m, s.next, l));
            long = l ∙ w.long;
          }

pub ruleset ordering = (rules, order-start, order-count, order-end, order-room, order-more)

-- ------------------------------------------------------------------ `by_area`

module _ (rows : List ℕ) (k n : ℕ) (out : List ℕ) where
  pub group-unlent : length rows / 9 < k → Regrouped k n rows out None out
  unfolding room_for
  group-unlent h = let e : leb (9 * k) (length rows) ≡ false = lt-leb (9 * k) (length rows) (omega arith) in record { says = rw e; stored = rw e }

  module _ (h : k ≤ length rows / 9) where
    pub group-lent : 9 * k ≤ length rows
    group-lent = omega arith

    pub group-short : length out / 9 < k → Regrouped k n rows out None out
    unfolding room_for
    group-short l =
        let d : leb (9 * k) (length rows) ≡ true = le-leb (9 * k) (length rows) (omega arith) in
        let e : leb (9 * k) (length out) ≡ false = lt-leb (9 * k) (length out) (omega arith) in
        record { says = rw (d, e); stored = rw (d, e) }

    module _ (l : k ≤ length out / 9) where
      pub group-space : 9 * k ≤ length out
      group-space = omega arith

      pub group-done : {r : ℕ} → r ≡ length (areas_for n 0 (fixups_in rows k)) → {out' : List ℕ} → out' ≡ over (areas_for n 0 (fixups_in rows k)) out → Regrouped k n rows out (Some r) out'
      unfolding room_for
      group-done er eo =
          let d : leb (9 * k) (length rows) ≡ true = le-leb (9 * k) (length rows) (omega arith) in
          let e : leb (9 * k) (length out) ≡ true = le-leb (9 * k) (length out) (omega arith) in
          record { says = rw (d, e, er); stored = rw (d, e) eo }

pub ruleset groups = (rules, group-unlent, group-lent, group-short, group-space, group-done)
