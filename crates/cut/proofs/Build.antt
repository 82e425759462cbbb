-- What builds from the records builds from those inside a cut.
use Prim.Native.Nat.{ℕ, ◌+◌, ◌-◌, ◌≤◌}
use mathlib.Core.Path.{◌≡◌, refl, ap, ◌∙◌}
use mathlib.Core.List.{List, [], ◌∷◌, ◌++◌}
use mathlib.Core.Option.{none}
use mathlib.Core.Bool.{Bool, true, false}
use mathlib.Core.Logic.{◌⊎◌, inl, inr}
use native.Mathlib.Omega.{arith}
use lib.ListN.{length}
use lib.Dec.{leb, ltb}
use borrow.Author.Tests.{leb-true, leb-false, le-leb}
use Rattle.format.specs.Header.{Form}
use Rattle.format.specs.Entries.{Entry, ignored, area, symbol}
use Rattle.format.specs.Pairs.{Pair}
use Rattle.format.specs.Outcome.{Outcome, fine, refused, fold}
use Rattle.format.specs.Records.{Taken, Records, ends}
use Rattle.format.specs.Tables.{Area, Symbol, Tables, area_row, add_area, add_symbol, add_body_of, add_entry, tables, fits, counted, total, room}
use Rattle.format.specs.Placing.{State, place_pair, placing}
use Rattle.format.specs.Reading.{Built, build}
use Rattle.cut.specs.Cut.{inside, cut_records}
use Rattle.cut.proofs.Records.{Asc, ends_of, behind, asc-left, asc-right}
use Rattle.laws.proofs.Outcomes.{Fine, chain, follow, passed, fold-prefix}

-- ascending records: those inside a cut come first
pub record Prefix {A : Type 0} (xs ys : List A) : Type 0 where
  pub rest : List A
  pub whole : xs ++ rest ≡ ys

prefix-step : {A : Type 0} (n : ℕ) (t : Taken A) (ts : List (Taken A)) (p : Bool) → leb t.end n ≡ p → Asc t.end (ends_of ts)
    → Prefix (inside n ts) ts → Prefix (inside n (t ∷ ts)) (t ∷ ts)
unfolding inside
prefix-step n t ts true e r ih = record { rest = ih.rest; whole = rw e (ap (λ (x : List (Taken _)). t ∷ x) ih.whole) }
prefix-step n t ts false e r ih =
    let none : inside n ts ≡ [] = behind n t.end ts (leb-false t.end n e) r in
    record { rest = t ∷ ts; whole = rw (e, none) }

pub prefix : {A : Type 0} (n a : ℕ) (ts : List (Taken A)) → Asc a (ends_of ts) → Prefix (inside n ts) ts
unfolding inside
prefix n a [] r = record { rest = []; whole = refl }
prefix n a (t ∷ ts) r = prefix-step n t ts (leb t.end n) refl r.1 (prefix n t.end ts r.1)

-- a cut leaves no pair, or every entry
Sides : ℕ → List (Taken Entry) → List (Taken Pair) → Type 0
Sides n es ps = (inside n ps ≡ []) ⊎ (inside n es ≡ es)

sides-step : (n : ℕ) (t : Taken Entry) (ts : List (Taken Entry)) (ps : List (Taken Pair)) (p : Bool) → leb t.end n ≡ p → Asc t.end (ends_of ts ++ ends_of ps)
    → Sides n ts ps → Sides n (t ∷ ts) ps
unfolding Sides inside
sides-step n t ts ps true e r (inl h) = inl h
sides-step n t ts ps true e r (inr h) = inr (rw (e, h))
sides-step n t ts ps false e r s =
    let k = asc-right t.end n (ends_of ts) (ends_of ps) (leb-false t.end n e) r in
    inl (behind n k.0 ps k.1 k.2)

sides : (n a : ℕ) (es : List (Taken Entry)) (ps : List (Taken Pair)) → Asc a (ends_of es ++ ends_of ps) → Sides n es ps
unfolding Sides inside
sides n a [] ps r = inr refl
sides n a (t ∷ ts) ps r = sides-step n t ts ps (leb t.end n) refl r.1 (sides n t.end ts ps r.1)

-- the kept sizes only grow
total-snoc : (rs : List Area) (a : Area) → total rs ≤ total (rs ++ a ∷ [])
unfolding total
total-snoc [] a = omega arith
total-snoc (b ∷ rs) a = omega (arith, total-snoc rs a)

add-area : (t : Tables) (place : ℕ) (a : Area) (u : Tables) → add_area t place a ≡ fine u → total t.areas ≤ total u.areas
unfolding add_area
add-area t place a u h =
    let k = passed (ltb (length t.areas) 64) (fine (record { areas = t.areas ++ a ∷ []; symbols = t.symbols })) 5 place u h in
    let same : t.areas ++ a ∷ [] ≡ u.areas = ap (λ (o : Outcome Tables). elim o [ fine x ↦ x.areas | refused n p ↦ [] ]) k.1 in
    rw (← same) (total-snoc t.areas a)

add-symbol : (t : Tables) (place : ℕ) (s : Symbol) (u : Tables) → add_symbol t place s ≡ fine u → total t.areas ≤ total u.areas
unfolding add_symbol
add-symbol t place s u h =
    let k = passed (ltb (length t.symbols) 1024) (fine (record { areas = t.areas; symbols = t.symbols ++ s ∷ [] })) 6 place u h in
    let same : t.areas ≡ u.areas = ap (λ (o : Outcome Tables). elim o [ fine x ↦ x.areas | refused n p ↦ [] ]) k.1 in
    omega (arith, ap total same)

add_body : (t : Tables) (place : ℕ) (e : Entry) (u : Tables) → add_body_of t place e ≡ fine u → total t.areas ≤ total u.areas
add_body t place ignored u h =
    let same : t.areas ≡ u.areas = ap (λ (o : Outcome Tables). elim o [ fine x ↦ x.areas | refused n p ↦ [] ]) h in
    omega (arith, ap total same)
add_body t place (area n z g a) u h = add-area t place (area_row place n z g a) u h
add_body t place (symbol n r v) u h = add-symbol t place _ u h

total-grows : (es : List (Taken Entry)) (t u : Tables) → fold add_entry t es ≡ fine u → total t.areas ≤ total u.areas
unfolding fold add_entry
total-grows [] t u h =
    let same : t.areas ≡ u.areas = ap (λ (o : Outcome Tables). elim o [ fine x ↦ x.areas | refused n p ↦ [] ]) h in
    omega (arith, ap total same)
total-grows (e ∷ es) t u h =
    let k = chain (add_entry t e) (λ t'. fold add_entry t' es) u h in
    omega (arith, add_body t e.place e.body k.value k.first, total-grows es k.value u k.second)

asc-rest : (a : ℕ) (xs ys : List ℕ) → Asc a (xs ++ ys) → (b : ℕ) × Asc b ys
asc-rest a [] ys r = (a, r)
asc-rest a (x ∷ xs) ys r = asc-rest x xs ys r.1

-- a fold over the records inside a cut
fold-inside : {S A : Type 0} (step : S → Taken A → Outcome S) (s b : S) (n a : ℕ) (ts : List (Taken A)) → Asc a (ends_of ts) → fold step s ts ≡ fine b
    → (u : S) × (fold step s (inside n ts) ≡ fine u) × ((rest : List (Taken A)) × (fold step u rest ≡ fine b))
fold-inside step s b n a ts r h =
    let p = prefix n a ts r in
    let k = fold-prefix step (inside n ts) p.rest s b (ap (fold step s) p.whole ∙ h) in
    (k.value, k.first, (p.rest, k.second))

-- what a build went through
pub record Went (f : Form) (r : Records) : Type 0 where
  pub t : Tables
  pub at-tables : tables r.entries ≡ fine t
  pub lines : ℕ
  pub at-lines : counted r.pairs ≡ fine lines
  pub fits-room : leb (total t.areas) 65536 ≡ true
  pub s : State
  pub at-placing : placing f t r.pairs ≡ fine s

pub went : (f : Form) (r : Records) (b : Built) → build f r ≡ fine b → Went f r
unfolding build room
went f r b h =
    let one = chain (tables r.entries) _ b h in
    let two = chain (counted r.pairs) _ b one.second in
    let three = chain (room one.value) _ b two.second in
    let four = chain (placing f one.value r.pairs) _ b three.second in
    record {
      t = one.value;
      at-tables = one.first;
      lines = two.value;
      at-lines = two.first;
      fits-room = (passed (leb (total one.value.areas) 65536) (fine (total one.value.areas)) 9 0 three.value three.first).0;
      s = four.value;
      at-placing = four.first;
    }

builds : (f : Form) (r : Records) → Went f r → Fine (build f r)
unfolding build room
builds f r w = record {
  value = record { tables = w.t; lines = w.lines; size = total w.t.areas; state = w.s };
  is-fine =
      follow (tables r.entries) _ w.at-tables
      (follow (counted r.pairs) _ w.at-lines
      (follow (room w.t) _ (rw w.fits-room)
      (follow (placing f w.t r.pairs) _ w.at-placing refl)));
}

no_pairs : (f : Form) (t : Tables) → Fine (placing f t [])
unfolding placing fold
no_pairs f t = record { value = _; is-fine = refl }

-- placing the pairs inside a cut: there are none, or the tables are the whole's
placing-cut : (f : Form) (n c : ℕ) (es : List (Taken Entry)) (ps : List (Taken Pair)) (t u : Tables) (s : State) → Asc c (ends_of ps)
    → tables es ≡ fine t → tables (inside n es) ≡ fine u → placing f t ps ≡ fine s → Sides n es ps → Fine (placing f u (inside n ps))
unfolding Sides placing
placing-cut f n c es ps t u s r e g h (inl q) = rw q (no_pairs f u)
placing-cut f n c es ps t u s r e g h (inr q) =
    let same : t ≡ u = let z : tables (inside n es) ≡ fine t = rw q e in cc in
    let k = fold-inside (place_pair f t) _ s n c ps r h in
    rw (← same) (record { value = k.0; is-fine = k.1 })

pub build-cut : (f : Form) (n a : ℕ) (r : Records) (b : Built) → Asc a (ends r) → build f r ≡ fine b → Fine (build f (cut_records n r))
unfolding cut_records ends tables counted
build-cut f n a r b asc h =
    let w = went f r b h in
    let c = asc-rest a (ends_of r.entries) (ends_of r.pairs) asc in
    let e = fold-inside add_entry _ w.t n a r.entries (asc-left a (ends_of r.entries) (ends_of r.pairs) asc) w.at-tables in
    let p = fold-inside fits _ w.lines n c.0 r.pairs c.1 w.at-lines in
    let q = placing-cut f n c.0 r.entries r.pairs w.t e.0 w.s c.1 w.at-tables e.1 w.at-placing
    (sides n a r.entries r.pairs asc) in
    builds f (cut_records n r) (record {
      t = e.0;
      at-tables = e.1;
      lines = p.0;
      at-lines = p.1;
      fits-room = le-leb (total e.0.areas) 65536 (omega (arith, total-grows e.2.0 e.0 w.t e.2.1, leb-true (total w.t.areas) 65536 w.fits-room));
      s = q.value;
      at-placing = q.is-fine;
    })
