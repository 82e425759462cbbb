-- What is written has room: the rows of an accepted text are no longer than the buffers that were lent. So a contract that says what each
-- buffer holds afterwards can be met.
use Prim.Native.Nat.{ℕ, zero, suc, ◌+◌, ◌-◌, ◌*◌, ◌≤◌}
use mathlib.Core.Path.{◌≡◌, refl, sym, ap, subst, ◌∙◌}
use mathlib.Core.List.{List, [], ◌∷◌, ◌++◌, append_assoc}
use mathlib.Core.Option.{Option, none, some}
use mathlib.Core.Bool.{Bool, true, false, ◌&&◌, false≢true}
use native.Mathlib.Omega.{arith}
use native.Mathlib.Nat.{zero-mul, suc-mul}
use lib.ListN.{length, get_or, length-append, length-set, length-replicate}
use lib.Dec.{eqb, leb, ltb}
use borrow.Author.Tests.{leb-true, ltb-true, eqb-true, le-leb}
use Rattle.format.specs.Lists.{pick, flat}
use Rattle.format.specs.Header.{Form}
use Rattle.format.specs.Entries.{Entry, ignored, area, symbol}
use Rattle.format.specs.Pairs.{Pair, skipped, placed, Fragment, Content, Relocation}
use Rattle.format.specs.Outcome.{Outcome, fine, refused, and_then, fold}
use Rattle.format.specs.Mode.{gives}
use Rattle.format.specs.Records.{Taken, Parsed}
use Rattle.format.specs.Tables.{Area, Symbol, Tables, area_row, add_area, add_symbol, add_body_of, add_entry, tables, total, rank, room, counted, kept_count}
use Rattle.format.specs.Fixups.{Fixup, Reference, Site, reference, fixup_of, fixup_to, fixup_at, fixups_at, of_area, by_area}
use Rattle.format.specs.Placing.{State, Walk, passed_over, write, walk, place_at, place_line, place_in, place_body, place_pair, placing}
use Rattle.format.specs.WorkLine.{in_line}
use Rattle.format.specs.Reading.{build, Lent, lent_room, allowed, Read, headed, read_of, read, Reading, fixups_of, reading_of, reading}
use Rattle.format.specs.Rows.{area_columns, fixup_columns, symbol_columns, symbol_numbers, fixup_numbers}
use Rattle.laws.proofs.Ones.{one_at_most}
use Rattle.laws.proofs.Known.{table-length}
use Rattle.laws.proofs.Outcomes.{chain, passed}

-- what every step keeps holds in the end
fold-keeps : {S A : Type 0} (step : S → A → Outcome S) (P : S → Type 0) → ((s : S) (x : A) (u : S) → P s → step s x ≡ fine u → P u)
    → (xs : List A) (s u : S) → P s → fold step s xs ≡ fine u → P u
unfolding fold
fold-keeps step P keep [] s u p h = let same : s ≡ u = cc in rw same at p
fold-keeps step P keep (x ∷ xs) s u p h =
    let k = chain (step s x) (λ t. fold step t xs) u h in
    fold-keeps step P keep xs k.value u (keep s x k.value p k.first) k.second

pub record Small (t : Tables) : Type 0 where
  pub areas : length t.areas ≤ 64
  pub symbols : length t.symbols ≤ 1024

small-area : (t : Tables) (place : ℕ) (a : Area) (u : Tables) → Small t → add_area t place a ≡ fine u → Small u
unfolding add_area
small-area t place a u p h =
    let k = passed (ltb (length t.areas) 64) _ 5 place u h in
    let same : record { areas = t.areas ++ a ∷ []; symbols = t.symbols } ≡ u = cc k.1 in
    let new : Small (record { areas = t.areas ++ a ∷ []; symbols = t.symbols }) =
    record { areas = simp length-append (omega (arith, ltb-true (length t.areas) 64 k.0)); symbols = p.symbols } in
    rw same at new

small-symbol : (t : Tables) (place : ℕ) (s : Symbol) (u : Tables) → Small t → add_symbol t place s ≡ fine u → Small u
unfolding add_symbol
small-symbol t place s u p h =
    let k = passed (ltb (length t.symbols) 1024) _ 6 place u h in
    let same : record { areas = t.areas; symbols = t.symbols ++ s ∷ [] } ≡ u = cc k.1 in
    let new : Small (record { areas = t.areas; symbols = t.symbols ++ s ∷ [] }) =
    record { areas = p.areas; symbols = simp length-append (omega (arith, ltb-true (length t.symbols) 1024 k.0)) } in
    rw same at new

small-body : (t : Tables) (place : ℕ) (e : Entry) (u : Tables) → Small t → add_body_of t place e ≡ fine u → Small u
small-body t place ignored u p h = let same : t ≡ u = cc in rw same at p
small-body t place (area n z g a) u p h = small-area t place (area_row place n z g a) u p h
small-body t place (symbol n r v) u p h = small-symbol t place _ u p h

pub small-tables : (es : List (Taken Entry)) (t : Tables) → tables es ≡ fine t → Small t
unfolding tables add_entry
small-tables es t h =
    fold-keeps add_entry Small (λ s x u p q. small-body s x.place x.body u p q) es _ t (record { areas = omega arith; symbols = omega arith }) h

-- images keep their lengths, and there are at most 1,024 fixups
pub record Sized (n : ℕ) (s : State) : Type 0 where
  pub values : length s.values ≡ n
  pub masks : length s.masks ≡ n
  pub fixups : length s.fixups ≤ 1024

few-to : (w : Site) (i position : ℕ) (f : Fragment) (xs : List Fixup) (o : Option Reference) (ys : List Fixup) → length xs ≤ 1024
    → fixup_to w i position f xs o ≡ fine ys → length ys ≤ 1024
few-to w i position f xs none ys p h = let same : xs ≡ ys = cc in rw same at p
few-to w i position f xs (some r) ys p h =
    let one = passed (ltb i (length w.numbers)) _ 12 w.place ys h in
    let two = passed (ltb (length xs) 1024) _ 13 w.place ys one.1 in
    let same : xs ++ fixup_of w i position f r ∷ [] ≡ ys = cc two.1 in
    let new : length (xs ++ fixup_of w i position f r ∷ []) ≤ 1024 = simp length-append (omega (arith, ltb-true (length xs) 1024 two.0)) in
    rw same at new

-- one fragment's part of a walk
few-one : (w : Site) (i position : ℕ) (f : Fragment) (xs ys : List Fixup) (t : Bool) → length xs ≤ 1024
    → pick t (and_then (reference w.tables w.place f) (λ r. fixup_to w i position f xs r)) (fine xs) ≡ fine ys → length ys ≤ 1024
few-one w i position f xs ys true p h =
    let k = chain (reference w.tables w.place f) (λ r. fixup_to w i position f xs r) ys h in
    few-to w i position f xs k.value ys p k.second
few-one w i position f xs ys false p h = let same : xs ≡ ys = cc in rw same at p

few-at : (w : Site) (entry position i : ℕ) (fs : List Fragment) (xs ys : List Fixup) → length xs ≤ 1024 → fixups_at w entry position i fs xs ≡ fine ys → length ys ≤ 1024
unfolding fixups_at fixup_at
few-at w entry position i [] xs ys p h = let same : xs ≡ ys = cc in rw same at p
few-at w entry position i (f ∷ fs) xs ys p h =
    let k = chain (fixup_at w entry position i f xs) _ ys h in
    few-at w entry position (suc i) fs k.value ys
    (few-one w i position f xs k.value (eqb f.entry entry && gives f.mode) p k.first) k.second

sized_past : (n : ℕ) (s : State) (xs : List Fixup) → Sized n s → length xs ≤ 1024 → Sized n (passed_over s xs)
unfolding passed_over
sized_past n s xs p l = record { values = p.values; masks = p.masks; fixups = l }

sized-write : (n : ℕ) (w : Walk) (entry position : ℕ) (s : State) (xs : List Fixup) → Sized n s → length xs ≤ 1024 → Sized n (write w entry position s xs)
unfolding write
sized-write n w entry position s xs p l = record
    { values = simp length-set p.values; masks = simp length-set p.masks; fixups = l }

-- either way on
sized_on : (n : ℕ) (t : Bool) (a b : Outcome State) (u : State) → (a ≡ fine u → Sized n u) → (b ≡ fine u → Sized n u) → pick t a b ≡ fine u → Sized n u
sized_on n true a b u f g h = f h
sized_on n false a b u f g h = g h

sized-walk : (n : ℕ) (w : Walk) (m entry position : ℕ) (s u : State) → Sized n s → walk w m entry position s ≡ fine u → Sized n u
unfolding walk
sized-walk n w zero entry position s u p h = let same : s ≡ u = cc in rw same at p
sized-walk n w (suc m) entry position s u p h =
    sized_on n (ltb position w.size) _ _ u
    (λ q.
    let k = chain (fixups_at w.site entry position 0 w.fragments s.fixups) _ u q in
    let l = few-at w.site entry position 0 w.fragments s.fixups k.value p.fixups k.first in
    sized_on n (eqb (get_or w.work.keeps entry 0) 1) _ _ u
    (sized-walk n w m (suc entry) (suc position) (write w entry position s k.value) u (sized-write n w entry position s k.value p l))
    (sized-walk n w m (suc entry) position (passed_over s k.value) u (sized_past n s k.value p l))
    k.second)
    (λ q. let same : s ≡ u = cc in rw same at p)
    h

sized-line : (n : ℕ) (fm : Form) (t : Tables) (place id : ℕ) (c : Content) (r : Relocation) (s u : State) → Sized n s → place_line fm t place id c r s ≡ fine u → Sized n u
unfolding place_line place_at
sized-line n fm t place id c r s u p h =
    let k = chain (fold (in_line fm.address_length (length c.bytes) place) 0 r.fragments) _ u h in
    sized-walk n _ (fm.address_length + length c.bytes) 0 c.address s u p k.second

sized-in : (n : ℕ) (fm : Form) (t : Tables) (place : ℕ) (c : Content) (r : Relocation) (s : State) (o : Option ℕ) (u : State) → Sized n s
    → place_in fm t place c r s o ≡ fine u → Sized n u
sized-in n fm t place c r s none u p h = let same : s ≡ u = cc in rw same at p
sized-in n fm t place c r s (some id) u p h = sized-line n fm t place id c r s u p h

sized-body : (n : ℕ) (fm : Form) (t : Tables) (place : ℕ) (s : State) (b : Pair) (u : State) → Sized n s → place_body fm t place s b ≡ fine u → Sized n u
sized-body n fm t place s skipped u p h = let same : s ≡ u = cc in rw same at p
sized-body n fm t place s (placed c r) u p h = sized-in n fm t place c r s (rank 0 t.areas r.area) u p h

pub sized-placing : (fm : Form) (t : Tables) (ps : List (Taken Pair)) (s : State) → placing fm t ps ≡ fine s → Sized (total t.areas) s
unfolding placing place_pair
sized-placing fm t ps s h =
    fold-keeps (place_pair fm t) (Sized (total t.areas)) (λ a x u p q. sized-body (total t.areas) fm t x.place a x.body u p q) ps _ s
    (record { values = length-replicate (total t.areas) 0; masks = length-replicate (total t.areas) 0; fixups = omega arith }) h

-- grouping by area makes no row twice
before : ℕ → List Fixup → ℕ
before id [] = 0
before id (x ∷ xs) = pick (leb id x.home) 1 0 + before id xs

split_step : (a b c : Bool) (p q r : ℕ) (x : Fixup) (xs : List Fixup) → p + q ≤ r → length xs ≡ p → (a ≡ true → b ≡ true → ⊥) → (a ≡ true → c ≡ true) → (b ≡ true → c ≡ true)
    → length (pick a (x ∷ xs) xs) + (pick b 1 0 + q) ≤ pick c 1 0 + r
split_step true true c p q r x xs l m d e f = absurd (d refl refl)
split_step true false c p q r x xs l m d e f = rw (e refl) (omega arith)
split_step false true c p q r x xs l m d e f = rw (f refl) (omega arith)
split_step false false true p q r x xs l m d e f = omega arith
split_step false false false p q r x xs l m d e f = omega arith

of-area : (id : ℕ) (xs : List Fixup) → length (of_area id xs) + before (suc id) xs ≤ before id xs
unfolding of_area before
of-area id [] = omega arith
of-area id (x ∷ xs) =
    split_step (eqb x.home id) (leb (suc id) x.home) (leb id x.home) (length (of_area id xs)) (before (suc id) xs) (before id xs) x (of_area id xs)
    (of-area id xs) refl
    (λ p q. omega (arith, eqb-true x.home id p, leb-true (suc id) x.home q))
    (λ p. le-leb id x.home (omega (arith, eqb-true x.home id p)))
    (λ q. le-leb id x.home (omega (arith, leb-true (suc id) x.home q)))

by-area : (n id : ℕ) (xs : List Fixup) → length (by_area n id xs) ≤ before id xs
unfolding by_area
by-area zero id xs = omega arith
by-area (suc n) id xs = simp length-append (omega (arith, by-area n (suc id) xs, of-area id xs))

before-le : (id : ℕ) (xs : List Fixup) → before id xs ≤ length xs
unfolding before
before-le id [] = omega arith
before-le id (x ∷ xs) = omega (arith, one_at_most (leb id x.home), before-le id xs)

pub grouped-le : (n : ℕ) (xs : List Fixup) → length (by_area n 0 xs) ≤ length xs
grouped-le n xs = omega (arith, by-area n 0 xs, before-le 0 xs)

-- rows of k numbers
pub flat-length : {A : Type 0} (g : A → List ℕ) (k : ℕ) → ((a : A) → length (g a) ≡ k) → (xs : List A) → length (flat g xs) ≡ length xs * k
unfolding flat
flat-length g k e [] = sym (zero-mul k)
flat-length g k e (x ∷ xs) = simp (length-append, suc-mul) (omega (arith, e x, flat-length g k e xs))

pub flat_append : {A : Type 0} (g : A → List ℕ) (xs ys : List A) → flat g (xs ++ ys) ≡ flat g xs ++ flat g ys
unfolding flat
flat_append g [] ys = refl
flat_append g (x ∷ xs) ys = ap (λ (z : List ℕ). g x ++ z) (flat_append g xs ys) ∙ sym (append_assoc (g x) (flat g xs) (flat g ys))

-- the rows have room in the buffers
pub record HasRoom (b : Lent) (r : Reading) : Type 0 where
  pub areas : length r.areas ≤ b.areas
  pub symbols : length r.symbols ≤ b.symbols
  pub values : length r.values ≤ b.values
  pub masks : length r.masks ≤ b.masks
  pub fixups : length r.fixups ≤ b.fixups

both_true : (s t : Bool) → (s && t) ≡ true → (s ≡ true) × (t ≡ true)
both_true true true h = (refl, refl)
both_true true false h = absurd (false≢true h)
both_true false t h = absurd (false≢true h)

-- what room the lent buffers have
room_of : (b : Lent) → lent_room b ≡ true → (64 * area_columns ≤ b.areas) × (1024 * symbol_columns ≤ b.symbols) × (65536 ≤ b.values) × (65536 ≤ b.masks) × (1024 * fixup_columns ≤ b.fixups)
unfolding lent_room
room_of b h =
    let k = both_true _ _ h in
    let l = both_true _ _ k.0 in
    let m = both_true _ _ l.0 in
    let n = both_true _ _ m.0 in
    (leb-true _ _ n.0, leb-true _ _ n.1, leb-true _ _ m.1, leb-true _ _ l.1, leb-true _ _ k.1)

room-with : (b : Lent) (text : List ℕ) (p : Parsed) (t : Tables) (lines size : ℕ) (s : State) → lent_room b ≡ true → Small t → Sized (total t.areas) s
    → total t.areas ≤ 65536 → HasRoom b (reading_of text (fine (record { parsed = p; built = record { tables = t; lines = lines; size = size; state = s } })))
unfolding fixups_of symbol_numbers fixup_numbers
room-with b text p t lines size s h small sized l =
    let k = room_of b h in
    record {
      areas = omega (arith, table-length t.areas s.masks, small.areas, k.0);
      symbols = omega (arith, flat-length symbol_numbers 5 (λ a. refl) t.symbols, small.symbols, k.1);
      values = omega (arith, sized.values, k.2);
      masks = omega (arith, sized.masks, k.3);
      fixups = omega (arith, flat-length fixup_numbers 9 (λ a. refl) (by_area (kept_count t.areas) 0 s.fixups), grouped-le (kept_count t.areas) s.fixups, sized.fixups, k.4);
    }

room-built : (b : Lent) (text : List ℕ) (p : Parsed) (w : Read) → lent_room b ≡ true → read_of p ≡ fine w → HasRoom b (reading_of text (fine w))
unfolding read_of build room
room-built b text p w h q =
    let zero' = chain (build p.form p.records) _ w q in
    let one = chain (tables p.records.entries) _ zero'.value zero'.first in
    let two = chain (counted p.records.pairs) _ zero'.value one.second in
    let three = chain (room one.value) _ zero'.value two.second in
    let four = chain (placing p.form one.value p.records.pairs) _ zero'.value three.second in
    let fits = (passed (leb (total one.value.areas) 65536) _ 9 0 three.value three.first).0 in
    let same : record { parsed = p; built = record { tables = one.value; lines = two.value; size = three.value; state = four.value } } ≡ w =
    cc (four.second, zero'.second) in
    subst (λ (v : Read). HasRoom b (reading_of text (fine v))) same
    (room-with b text p one.value two.value three.value four.value h (small-tables p.records.entries one.value one.first)
    (sized-placing p.form one.value p.records.pairs four.value four.first) (leb-true (total one.value.areas) 65536 fits))

-- nothing is written on a refusal
room-none : (b : Lent) (text : List ℕ) (n p : ℕ) → HasRoom b (reading_of text (refused n p))
room-none b text n p = record { areas = omega arith; symbols = omega arith; values = omega arith; masks = omega arith; fixups = omega arith }

pub has_room : (ended : Bool) (b : Lent) (text : List ℕ) → HasRoom b (reading ended b text)
unfolding reading read allowed
has_room ended b text = go (read ended b text) refl
  where
    go : (o : Outcome Read) → read ended b text ≡ o → HasRoom b (reading_of text o)
    go (refused n p) h = room-none b text n p
    go (fine w) h =
        let one = chain (allowed b text) _ w h in
        let two = chain (headed ended text) read_of w one.second in
        room-built b text two.value w (passed (lent_room b) _ 1 0 one.value one.first).0 two.second
