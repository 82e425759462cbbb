-- In an accepted module the place of a symbol's name tells its index: names stand in their lines, and each line behind the one before it.
-- Assumes nothing.
use Prim.Native.Nat.{ℕ, zero, suc, ◌+◌, ◌≤◌, ◌<◌}
use mathlib.Core.Path.{◌≡◌, refl, ap, subst}
use mathlib.Core.Bool.{Bool, true, false, ◌&&◌}
use mathlib.Core.List.{List, [], ◌∷◌, ◌++◌}
use mathlib.Core.Option.{Option, none, some}
use native.Mathlib.Omega.{arith}
use lib.ListN.{length, get_or, drop, get_elem?}
use lib.Dec.{eqb, leb, ltb}
use borrow.Author.Tests.{leb-true, eq-eqb, ne_eqb}
use Rattle.format.specs.Lists.{pick}
use Rattle.format.specs.Got.{Got, is, isnt}
use Rattle.format.specs.Lines.{Line, width, lines_of, end_length}
use Rattle.format.specs.Header.{Form, Head, header}
use Rattle.format.specs.Entries.{Entry, ignored, area, symbol, entry_line}
use Rattle.format.specs.Pairs.{Pair}
use Rattle.format.specs.Outcome.{fine, refused, fold}
use Rattle.format.specs.Records.{Taken, stops, last, goes, step_of, entry_step, pairs, Records, both, records, Parsed, parsed_at, parsed_from, parsed}
use Rattle.format.specs.Tables.{Symbol, Tables, named, add_area, add_symbol, add_body_of, add_entry, area_row, tables, last_index}
use Rattle.format.specs.Reading.{Lent, Read, allowed, headed, read, read_of, build}
use Rattle.laws.proofs.Outcomes.{chain, passed, unlike}
use Rattle.laws.proofs.Headed.{headed-parsed}
use Rattle.laws.proofs.Within.{Holds, Named, EntryIn, entry_in}
use Rattle.laws.proofs.WasRead.{what-was-read}
use Rattle.laid.specs.Words.{Each, Pairwise}
use Rattle.laid.specs.Outside.{index_at, by_index}
use Rattle.laid.proofs.Step.{both_true}

-- ------------------------------------------------------------------ lines one behind the other

-- the name of a symbol of a line at a place stands before m
abbrev NameBefore : ℕ → Entry → ℕ → Type 0
NameBefore place ignored m = Unit {0}
NameBefore place (area n z g a) m = Unit {0}
NameBefore place (symbol n r v) m = place + n.at < m

-- entries at n or later, each behind the name of the one before it
data From : ℕ → List (Taken Entry) → Type 0 where
  no_more : {n : ℕ} → From n []
  one_more : {n : ℕ} {e : Taken Entry} {es : List (Taken Entry)} (m : ℕ) → n ≤ m → n ≤ e.place → NameBefore e.place e.body m → From m es → From n (e ∷ es)

from_less : (n m : ℕ) (es : List (Taken Entry)) → n ≤ m → From m es → From n es
from_less n m es l no_more = no_more
from_less n m es l (one_more {e = e} k j p b f) =
    let x : n ≤ k = omega arith in
    let y : n ≤ e.place = omega arith in
    one_more k x y b f

-- enough for the last
past-name : ℕ → Entry → ℕ
past-name place ignored = place
past-name place (area n z g a) = place
past-name place (symbol n r v) = suc (place + n.at)

name-past : (place : ℕ) (e : Entry) → NameBefore place e (past-name place e) × (place ≤ past-name place e)
unfolding past-name
name-past place ignored = (tt, omega arith)
name-past place (area n z g a) = (tt, omega arith)
name-past place (symbol n r v) = (omega arith, omega arith)

named-before : (place : ℕ) (s : List ℕ) (e : Entry) (m : ℕ) → Named s e → place + length s < m → NameBefore place e m
named-before place s ignored m h l = tt
named-before place s (area n z g a) m h l = tt
named-before place s (symbol n r v) m h l = omega arith

-- what a line does, and the entries behind it
step_from : (ended : Bool) (at : ℕ) (l : Line) (m : Got Entry) (rest : Records) (two : List (Taken Pair)) → Holds (EntryIn l.bytes) m → From (at + width l) rest.entries
    → From at (both (step_of ended at (length l.bytes) l.ends (at + width l) m) rest two).entries
unfolding width
step_from ended at l (isnt r p) rest two h f = no_more
step_from ended at l (is a used) rest two h f = go (eqb used (length l.bytes) && leb 1 l.ends) refl ended
  where
    go : (t : Bool) → (eqb used (length l.bytes) && leb 1 l.ends) ≡ t → (u : Bool)
        → From at (both (pick t (goes (record { place = at; end = pick ended (at + (length l.bytes + l.ends)) (at + used); body = a })) (pick u stops (last (record { place = at; end = at + used; body = a })))) rest two).entries
    go true e u =
        let k = leb-true 1 l.ends (both_true (eqb used (length l.bytes)) (leb 1 l.ends) e).1 in
        let x : at ≤ at + (length l.bytes + l.ends) = omega arith in
        let y : at ≤ at = omega arith in
        one_more {e = record { place = at; end = pick ended (at + (length l.bytes + l.ends)) (at + used); body = a }} (at + (length l.bytes + l.ends)) x y
        (named-before at l.bytes a (at + (length l.bytes + l.ends)) h.1 (omega arith)) f
    go false e true = no_more
    go false e false =
        let n = name-past at a in
        let y : at ≤ at = omega arith in
        one_more {e = record { place = at; end = at + used; body = a }} (past-name at a) n.1 y n.0 no_more

records-from : (ended : Bool) (f : Form) (at : ℕ) (ls : List Line) → From at (records ended f at ls).entries
unfolding records entry_step
records-from ended f at [] = no_more
records-from ended f at (l ∷ ls) =
    step_from ended at l (entry_line f l.bytes 0) (records ended f (at + width l) ls) (pairs ended f at (l ∷ ls)) (entry_in f l.bytes 0 (omega arith)) (records-from ended f (at + width l) ls)

parsed-at-from : (ended : Bool) (f : Form) (at e : ℕ) (text : List ℕ) (p : Parsed) → parsed_at ended f at e text ≡ fine p → From 0 p.records.entries
unfolding parsed_at
parsed-at-from ended f at zero text p h = go ended h
  where
    go : (t : Bool) → pick t (refused 4 0) (fine (record { form = f; head = at; records = record { entries = []; pairs = [] } })) ≡ fine p → From 0 p.records.entries
    go true e = unlike 4 0 p e
    go false e = let same : record { form = f; head = at; records = record { entries = []; pairs = [] } } ≡ p = cc in subst (λ (x : Parsed). From 0 x.records.entries) same no_more
parsed-at-from ended f at (suc e) text p h =
    let rest = records ended f (at + suc e) (lines_of ended (drop (at + suc e) text)) in
    let same : record { form = f; head = pick ended (at + suc e) at; records = rest } ≡ p = cc in
    subst (λ (x : Parsed). From 0 x.records.entries) same
    (from_less 0 (at + suc e) rest.entries (omega arith) (records-from ended f (at + suc e) (lines_of ended (drop (at + suc e) text))))

parsed-from : (ended : Bool) (o : Option Head) (text : List ℕ) (p : Parsed) → parsed_from ended o text ≡ fine p → From 0 p.records.entries
unfolding parsed_from
parsed-from ended none text p h = unlike 4 0 p h
parsed-from ended (some d) text p h = parsed-at-from ended d.form d.next (end_length (drop d.next text)) text p h

read-from : (ended : Bool) (b : Lent) (text : List ℕ) (w : Read) → read ended b text ≡ fine w → From 0 w.parsed.records.entries
unfolding read read_of parsed
read-from ended b text w h =
    let one = chain (allowed b text) _ w h in
    let two = chain (headed ended text) read_of w one.second in
    let three = chain (build two.value.form two.value.records) _ w two.second in
    let same : record { parsed = two.value; built = three.value } ≡ w = cc three.second in
    subst (λ (v : Read). From 0 v.parsed.records.entries) same (parsed-from ended (header text) text two.value (headed-parsed ended text two.value two.first))

-- ------------------------------------------------------------------ the symbol table

abbrev Before : Symbol → Symbol → Type 0
Before s u = s.name.at < u.name.at

record Ascending (n : ℕ) (t : Tables) : Type 0 where
  in_order : Pairwise Before t.symbols
  below : Each (λ (s : Symbol). s.name.at < n) t.symbols

each_snoc : {A : Type 0} (P : A → Type 0) (xs : List A) (y : A) → Each P xs → P y → Each P (xs ++ y ∷ [])
each_snoc P [] y h k = (k, tt)
each_snoc P (x ∷ xs) y h k = (h.0, each_snoc P xs y h.1 k)

pairwise-snoc : {A : Type 0} (R : A → A → Type 0) (xs : List A) (y : A) → Pairwise R xs → Each (λ (x : A). R x y) xs → Pairwise R (xs ++ y ∷ [])
pairwise-snoc R [] y h k = (tt, tt)
pairwise-snoc R (x ∷ xs) y h k = (each_snoc (R x) xs y h.0 k.0, pairwise-snoc R xs y h.1 k.1)

each_below : (n m : ℕ) (ss : List Symbol) → n ≤ m → Each (λ (s : Symbol). s.name.at < n) ss → Each (λ (s : Symbol). s.name.at < m) ss
each_below n m [] l h = tt
each_below n m (s ∷ ss) l h = (omega (arith, h.0), each_below n m ss l h.1)

module _ (n m place : ℕ) (lm : n ≤ m) (lp : n ≤ place) where
  body-ascends : (t u : Tables) (e : Entry) → add_body_of t place e ≡ fine u → NameBefore place e m → Ascending n t → Ascending m u
  unfolding add_area add_symbol area_row named
  body-ascends t u ignored h b w =
      let same : t ≡ u = cc in
      subst (λ (x : Tables). Ascending m x) same (record { in_order = w.in_order; below = each_below n m t.symbols lm w.below })
  body-ascends t u (area x z g a) h b w =
      let k = passed (ltb (length t.areas) 64) _ 5 place u h in
      let same : record { areas = t.areas ++ area_row place x z g a ∷ []; symbols = t.symbols } ≡ u = cc k.1 in
      subst (λ (x : Tables). Ascending m x) same (record { in_order = w.in_order; below = each_below n m t.symbols lm w.below })
  body-ascends t u (symbol x r v) h b w =
      let k = passed (ltb (length t.symbols) 1024) _ 6 place u h in
      let s : Symbol = record { name = named place x; ref = r; value = v; area = last_index (length t.areas) } in
      let same : record { areas = t.areas; symbols = t.symbols ++ s ∷ [] } ≡ u = cc k.1 in
      subst (λ (x : Tables). Ascending m x) same
      (record {
        in_order = pairwise-snoc Before t.symbols s w.in_order (each_below n (place + x.at) t.symbols (omega arith) w.below);
        below = each_snoc (λ (s : Symbol). s.name.at < m) t.symbols s (each_below n m t.symbols lm w.below) b;
      })

fold-ascends : (n : ℕ) (es : List (Taken Entry)) (t u : Tables) → From n es → fold add_entry t es ≡ fine u → Ascending n t → Pairwise Before u.symbols
unfolding fold add_entry
fold-ascends n [] t u f h w = let same : t ≡ u = cc in subst (λ (x : Tables). Pairwise Before x.symbols) same w.in_order
fold-ascends n (e ∷ es) t u (one_more m lm lp b f) h w =
    let k = chain (add_entry t e) (λ x. fold add_entry x es) u h in
    fold-ascends m es k.value u f k.second (body-ascends n m e.place lm lp t k.value e.body k.first b w)

symbols-ascend : (ended : Bool) (b : Lent) (text : List ℕ) (w : Read) → read ended b text ≡ fine w → Pairwise Before w.built.tables.symbols
unfolding tables
symbols-ascend ended b text w h =
    fold-ascends 0 w.parsed.records.entries (record { areas = []; symbols = [] }) w.built.tables (read-from ended b text w h) (what-was-read ended b text w h).builds.entered
    (record { in_order = tt; below = tt })

-- ------------------------------------------------------------------ place and index

each_at : (P : Symbol → Type 0) (ss : List Symbol) (i : ℕ) (s : Symbol) → Each P ss → get_elem? ss i ≡ some s → P s
each_at P [] i s h e = let z : ◌≡◌ {A = ℕ} 0 1 = cc in let y : ⊥ = omega arith in absurd y
each_at P (u ∷ ss) zero s h e = let same : u ≡ s = cc in subst P same h.0
each_at P (u ∷ ss) (suc i) s h e = each_at P ss i s h.1 e

index_is : (ss : List Symbol) (i : ℕ) (s : Symbol) → Pairwise Before ss → get_elem? ss i ≡ some s → index_at s.name.at ss ≡ i
unfolding index_at
index_is [] i s h e = let z : ◌≡◌ {A = ℕ} 0 1 = cc in let y : ⊥ = omega arith in absurd y
index_is (u ∷ ss) zero s h e = let same : u ≡ s = cc in rw (eq-eqb u.name.at s.name.at (ap (λ (x : Symbol). x.name.at) same))
index_is (u ∷ ss) (suc i) s h e =
    let l : u.name.at < s.name.at = each_at (Before u) ss i s h.0 e in
    rw (ne_eqb u.name.at s.name.at (λ q. omega arith)) (ap suc (index_is ss i s h.1 e))

-- the address chosen for the i-th symbol is found by the place of its name
pub the-place-tells-the-index : (ended : Bool) (b : Lent) (text : List ℕ) (w : Read) → read ended b text ≡ fine w → (i : ℕ) (s : Symbol) → get_elem? w.built.tables.symbols i ≡ some s
    → (areas outside : List ℕ) → (by_index w.built.tables areas outside).outside s.name.at ≡ get_or outside i 0
unfolding by_index
the-place-tells-the-index ended b text w h i s e areas outside =
    ap (λ (k : ℕ). get_or outside k 0) (index_is w.built.tables.symbols i s (symbols-ascend ended b text w h) e)
