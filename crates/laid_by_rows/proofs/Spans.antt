-- Two pairs within the conditions write a common position exactly if their bytes meet in one area.
-- Assumes nothing.
use Prim.Native.Nat.{ℕ, zero, suc, min, max, ◌+◌, ◌-◌, ◌*◌, ◌≤◌, ◌<◌}
use mathlib.Core.Path.{◌≡◌, refl, ap, sym, subst, ◌∙◌}
use mathlib.Core.Bool.{Bool, true, false, not, ◌&&◌, false≢true}
use mathlib.Core.List.{List, [], ◌∷◌}
use mathlib.Core.Option.{Option, none, some}
use native.Mathlib.Omega.{arith}
use lib.Dec.{eqb, ltb, leb}
use lib.ListN.{length, get_or}
use borrow.Author.Tests.{eqb-true, eqb-false, ltb-true, ltb-false, le-ltb}
use Rattle.format.specs.Header.{Form}
use Rattle.format.specs.Lists.{pick}
use Rattle.format.specs.Pairs.{Content, Pair, Relocation, placed}
use Rattle.format.specs.Placing.{extent, walk_by}
use Rattle.format.specs.Records.{Taken}
use Rattle.format.specs.Tables.{Tables, offset, rank}
use Rattle.laws.specs.PairRows.{walk_of}
use Rattle.laws.specs.Rows.{areas_in}
use Rattle.homes.specs.declared.Home.{Home}
use Rattle.homes.specs.Home.{home_at, home_by_of}
use Rattle.homes.proofs.Use.{by_rank}
use Rattle.order.specs.Writes.{Cell, cell_at, cells_of, writes, written, wrote}
use Rattle.order.proofs.Areas.{a-pair-writes-inside-its-area, never_both}
use Rattle.record_rows.specs.RecordRows.{pair_columns}
use Rattle.one_position.specs.Pair.{Sound, Stands}
use Rattle.laid.specs.Fit.{fit_fragments, misses}
use Rattle.laid.specs.Laid.{Chosen}
use Rattle.laid.proofs.Step.{Ready, ready, both_true}
use Rattle.laid.proofs.Cells.{CellIs, here, nowhere}
use Rattle.laid.proofs.Pattern.{cells-content, content-cell}
use Rattle.laid.proofs.Words.{misses-to, misses-from}
use Rattle.fit_rows.specs.Fits.{meets, end_at}
use Rattle.laid_by_rows.proofs.Numbers.{the-address, the-area}

-- any addresses: what is written does not go by them
abbrev anyhow : Chosen
anyhow = record { areas = []; outside = λ place. 0 }

-- a position that a pair's j-th byte goes to
pub record Hit (S E address n i : ℕ) : Type 0 where
  pub j : ℕ
  pub low : j < n
  pub is : i ≡ S + (address + j)
  pub within : address + j < E

abbrev pub pair_by : (place : ℕ) → Content → Relocation → Taken Pair
pair_by place c r = record { place = place; end = 0; body = placed c r }

module _ (fm : Form) (t : Tables) (place id : ℕ) (c : Content) (r : Relocation) (k : rank 0 t.areas r.area ≡ some id) (h : Ready fm (length c.bytes) r.fragments) where
  cells_are : writes fm t (pair_by place c r) ≡ cells_of (walk_of fm t place id c r) (length c.bytes) fm.address_length c.address
  unfolding writes
  cells_are = rw k (cells-content fm t anyhow place id c r h)

  -- which it does
  pub hit : (i : ℕ) → written (cell_at (writes fm t (pair_by place c r)) i) ≡ true → Hit (offset t.areas r.area) (extent t.areas r.area) c.address (length c.bytes) i
  unfolding walk_of walk_by
  hit i w = go (content-cell fm t anyhow place id c r h i) (ap (λ (cs : List Cell). written (cell_at cs i)) (sym cells_are) ∙ w)
    where
      go : CellIs (walk_of fm t place id c r) (length c.bytes) fm.address_length c.address i
          → written (cell_at (cells_of (walk_of fm t place id c r) (length c.bytes) fm.address_length c.address) i) ≡ true
          → Hit (offset t.areas r.area) (extent t.areas r.area) c.address (length c.bytes) i
      go (here j e' p' l ee ep ei b e) f = record { j = j; low = l; is = ei ∙ ap (λ (x : ℕ). offset t.areas r.area + x) ep; within = omega arith }
      go (nowhere g e) f = absurd (false≢true (ap written (sym e) ∙ f))

  -- and one that it does not go to
  pub struck : (i j : ℕ) → j < length c.bytes → i ≡ offset t.areas r.area + (c.address + j) → c.address + j < extent t.areas r.area
      → written (cell_at (writes fm t (pair_by place c r)) i) ≡ true
  unfolding walk_of walk_by
  struck i j l e b = ap (λ (cs : List Cell). written (cell_at cs i)) cells_are ∙ go (content-cell fm t anyhow place id c r h i)
    where
      go : CellIs (walk_of fm t place id c r) (length c.bytes) fm.address_length c.address i
          → written (cell_at (cells_of (walk_of fm t place id c r) (length c.bytes) fm.address_length c.address) i) ≡ true
      go (here j' e' p' l' ee ep ei b' f) = ap written f
      go (nowhere g f) = absurd (g j l e b)

-- a pair of an area that is not kept writes nothing
unkept : (fm : Form) (t : Tables) (place : ℕ) (c : Content) (r : Relocation) → rank 0 t.areas r.area ≡ none → writes fm t (pair_by place c r) ≡ []
unfolding writes
unkept fm t place c r k = rw k

none-misses : (ds : List Cell) → misses [] ds ≡ true
unfolding misses
none-misses ds = refl

never : (b : Bool) → (b && false) ≡ false
never true = refl
never false = refl

-- what is known of a row that stands for a pair within the conditions
pub record Good (fm : Form) (t : Tables) (pairs content fragments : List ℕ) (k place : ℕ) (c : Content) (r : Relocation) : Type 0 where
  pub stands : Stands pairs content fragments (pair_columns * k) place c r
  pub sound : Sound fm t place c r
  pub fits : fit_fragments fm r.fragments ≡ true

module _ (fm : Form) (t : Tables) (areas : List ℕ) (na : ℕ) (few : na ≤ 64) (are : areas_in areas na ≡ t.areas) (pairs content fragments : List ℕ)
    (k j : ℕ) (pp qp : ℕ) (pc qc : Content) (pr qr : Relocation) (P : Good fm t pairs content fragments k pp pc pr) (Q : Good fm t pairs content fragments j qp qc qr) where
  abbrev s : ℕ
  s = get_or pairs (pair_columns * k + 1) 0

  abbrev b : ℕ
  b = get_or pairs (pair_columns * j + 1) 0

  abbrev d : ℕ
  d = b + get_or pairs (pair_columns * j + 4) 0

  abbrev area : ℕ
  area = get_or pairs (pair_columns * k + 2) 0

  abbrev e : ℕ
  e = end_at areas na pairs k

  s-is : s ≡ pc.address
  s-is = the-address P.stands

  b-is : b ≡ qc.address
  b-is = the-address Q.stands

  area-is : area ≡ pr.area
  area-is = the-area P.stands

  home-is : home_at areas na area ≡ home_by_of area (offset t.areas area) (extent t.areas area) (rank 0 t.areas area)
  home-is = subst (λ xs. home_at areas na area ≡ home_by_of area (offset xs area) (extent xs area) (rank 0 xs area)) are (by_rank areas na area {h = home_at areas na area} refl few)

  -- the end of the first in its area
  end_none : rank 0 t.areas area ≡ none → e ≡ 0
  unfolding end_at
  end_none n = rw (home-is, n) (omega arith)

  end-some : (id : ℕ) → rank 0 t.areas area ≡ some id → e ≡ min (s + length pc.bytes) (extent t.areas area)
  unfolding end_at
  end-some id n = rw (home-is, n, P.stands.counted)

  ready-p : (id : ℕ) → rank 0 t.areas pr.area ≡ some id → Ready fm (length pc.bytes) pr.fragments
  ready-p id n = ready fm (length pc.bytes) pr.fragments pp 0 (P.sound.in-line id n).many P.fits (P.sound.in-line id n).is

  ready-q : (id : ℕ) → rank 0 t.areas qr.area ≡ some id → Ready fm (length qc.bytes) qr.fragments
  ready-q id n = ready fm (length qc.bytes) qr.fragments qp 0 (Q.sound.in-line id n).many Q.fits (Q.sound.in-line id n).is

  pub missed : Bool
  missed = misses (writes fm t (pair_by pp pc pr)) (writes fm t (pair_by qp qc qr))

  pub missed-is : missed ≡ misses (writes fm t (pair_by pp pc pr)) (writes fm t (pair_by qp qc qr))
  unfolding missed
  missed-is = refl

  -- pairs of two areas
  apart-areas : (pr.area ≡ qr.area → ⊥) → missed ≡ true
  unfolding missed wrote
  apart-areas n = misses-from (writes fm t (pair_by pp pc pr)) (writes fm t (pair_by qp qc qr))
      (λ i x y. never_both t.areas pr.area qr.area i n (a-pair-writes-inside-its-area fm t pp 0 pc pr i x) (a-pair-writes-inside-its-area fm t qp 0 qc qr i y))

  module _ (id : ℕ) (n : rank 0 t.areas pr.area ≡ some id) (same : qr.area ≡ pr.area) where
    n-q : rank 0 t.areas qr.area ≡ some id
    n-q = ap (λ (a : ℕ). rank 0 t.areas a) same ∙ n

    n-area : rank 0 t.areas area ≡ some id
    n-area = ap (λ (a : ℕ). rank 0 t.areas a) area-is ∙ n

    E : ℕ
    E = extent t.areas pr.area

    e-is : e ≡ min (pc.address + length pc.bytes) (extent t.areas pr.area)
    e-is = end-some id n-area ∙ rw (s-is, area-is)

    d-is : d ≡ qc.address + length qc.bytes
    d-is = rw (b-is, Q.stands.counted)

    -- a common position
    pub common : s < e → s < d → b < e → b < d → missed ≡ false
    unfolding missed
    common l1 l2 l3 l4 = go missed refl
      where
        x : ℕ
        x = max s b

        i : ℕ
        i = offset t.areas pr.area + x

        go : (u : Bool) → missed ≡ u → missed ≡ false
        go false f = f
        go true f =
            let hp = struck fm t pp id pc pr n (ready-p id n) i (x - pc.address) (omega (arith, s-is, b-is, e-is)) (omega (arith, s-is, b-is)) (omega (arith, s-is, b-is, e-is)) in
            let hq = struck fm t qp id qc qr n-q (ready-q id n-q) i (x - qc.address) (omega (arith, s-is, b-is, d-is)) (ap (λ (a : ℕ). offset t.areas a + x) (sym same) ∙ omega (arith, s-is, b-is))
            (ap-lt (omega (arith, s-is, b-is, e-is))) in
            absurd (misses-to (writes fm t (pair_by pp pc pr)) (writes fm t (pair_by qp qc qr)) i f hp hq)
          where
            ap-lt : qc.address + (x - qc.address) < extent t.areas pr.area → qc.address + (x - qc.address) < extent t.areas qr.area
            ap-lt l = rw same l

    -- no common position
    pub disjoint : (s < e → s < d → b < e → b < d → ⊥) → missed ≡ true
    unfolding missed
    disjoint f = misses-from (writes fm t (pair_by pp pc pr)) (writes fm t (pair_by qp qc qr)) (λ i x y.
        let hp = hit fm t pp id pc pr n (ready-p id n) i x in
        let hq = hit fm t qp id qc qr n-q (ready-q id n-q) i y in
        let start : offset t.areas qr.area ≡ offset t.areas pr.area = ap (offset t.areas) same in
        let last : extent t.areas qr.area ≡ extent t.areas pr.area = ap (extent t.areas) same in
        f (omega (arith, hp.low, hp.is, hp.within, s-is, e-is)) (omega (arith, hp.low, hp.is, hq.low, hq.is, s-is, b-is, d-is, start))
        (omega (arith, hp.low, hp.is, hp.within, hq.low, hq.is, hq.within, s-is, b-is, e-is, start, last)) (omega (arith, hq.low, b-is, d-is)))

  -- the test over rows
  meets-is : (u1 u2 u3 u4 u5 : Bool) → eqb (get_or pairs (pair_columns * j + 2) 0) area ≡ u1 → ltb s e ≡ u2 → ltb s d ≡ u3 → ltb b e ≡ u4 → ltb b d ≡ u5
      → meets pairs area s e j ≡ (u1 && (u2 && (u3 && (u4 && u5))))
  unfolding meets
  meets-is u1 u2 u3 u4 u5 e1 e2 e3 e4 e5 = rw (e1, e2, e3, e4, e5)

  pub row-misses : missed ≡ not (meets pairs area s e j)
  row-misses = by-rank-of (rank 0 t.areas pr.area) refl
    where
      alike : (id : ℕ) → rank 0 t.areas pr.area ≡ some id → qr.area ≡ pr.area → eqb (get_or pairs (pair_columns * j + 2) 0) area ≡ true → missed ≡ not (meets pairs area s e j)
      alike id n same e1 = go (ltb s e) refl (ltb s d) refl (ltb b e) refl (ltb b d) refl
        where
          go : (u2 : Bool) → ltb s e ≡ u2 → (u3 : Bool) → ltb s d ≡ u3 → (u4 : Bool) → ltb b e ≡ u4 → (u5 : Bool) → ltb b d ≡ u5 → missed ≡ not (meets pairs area s e j)
          go true f2 true f3 true f4 true f5 =
              common id n same (ltb-true s e f2) (ltb-true s d f3) (ltb-true b e f4) (ltb-true b d f5) ∙ sym (ap not (meets-is true true true true true e1 f2 f3 f4 f5))
          go false f2 u3 f3 u4 f4 u5 f5 = disjoint id n same (λ a1 a2 a3 a4. let l = ltb-false s e f2 in omega (arith, l, a1)) ∙ sym (ap not (meets-is true false u3 u4 u5 e1 f2 f3 f4 f5))
          go true f2 false f3 u4 f4 u5 f5 = disjoint id n same (λ a1 a2 a3 a4. let l = ltb-false s d f3 in omega (arith, l, a2)) ∙ sym (ap not (meets-is true true false u4 u5 e1 f2 f3 f4 f5))
          go true f2 true f3 false f4 u5 f5 = disjoint id n same (λ a1 a2 a3 a4. let l = ltb-false b e f4 in omega (arith, l, a3)) ∙ sym (ap not (meets-is true true true false u5 e1 f2 f3 f4 f5))
          go true f2 true f3 true f4 false f5 = disjoint id n same (λ a1 a2 a3 a4. let l = ltb-false b d f5 in omega (arith, l, a4)) ∙ sym (ap not (meets-is true true true true false e1 f2 f3 f4 f5))

      by-area : (id : ℕ) → rank 0 t.areas pr.area ≡ some id → (u : Bool) → eqb (get_or pairs (pair_columns * j + 2) 0) area ≡ u → missed ≡ not (meets pairs area s e j)
      by-area id n true f = alike id n (sym (the-area Q.stands) ∙ (eqb-true (get_or pairs (pair_columns * j + 2) 0) area f ∙ area-is)) f
      by-area id n false f =
          apart-areas (λ g. eqb-false (get_or pairs (pair_columns * j + 2) 0) area f (the-area Q.stands ∙ (sym g ∙ sym area-is)))
          ∙ sym (ap not (meets-is false (ltb s e) (ltb s d) (ltb b e) (ltb b d) f refl refl refl refl))

      by-rank-of : (o : Option ℕ) → rank 0 t.areas pr.area ≡ o → missed ≡ not (meets pairs area s e j)
      by-rank-of none n =
          let z : e ≡ 0 = end_none (ap (λ (a : ℕ). rank 0 t.areas a) area-is ∙ n) in
          none-there n ∙ sym (ap not (meets-is (eqb (get_or pairs (pair_columns * j + 2) 0) area) false (ltb s d) (ltb b e) (ltb b d) refl (not-below z) refl refl refl ∙ never (eqb (get_or pairs (pair_columns * j + 2) 0) area)))
        where
          not-below : e ≡ 0 → ltb s e ≡ false
          not-below z = ap (λ (y : ℕ). ltb s y) z ∙ le-ltb s 0 (omega arith)

          none-there : rank 0 t.areas pr.area ≡ none → missed ≡ true
          none-there n = missed-is ∙ (ap (λ (cs : List Cell). misses cs (writes fm t (pair_by qp qc qr))) (unkept fm t pp pc pr n) ∙ none-misses (writes fm t (pair_by qp qc qr)))
      by-rank-of (some id) n = by-area id n (eqb (get_or pairs (pair_columns * j + 2) 0) area) refl
