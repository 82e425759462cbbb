-- What placing does, taken apart: the fixups that a pair makes and the bytes that it writes depend on the pair alone. So the code may check in one
-- pass, write the images in a second and the fixup rows area by area in a third.
use Prim.Native.Nat.{ℕ, zero, suc, ◌+◌, ◌-◌}
use mathlib.Core.Path.{◌≡◌, refl, sym, ap, ◌∙◌}
use mathlib.Core.List.{List, [], ◌∷◌, ◌++◌, append_assoc, append-nil}
use mathlib.Core.Option.{Option, none, some}
use mathlib.Core.Bool.{Bool, true, false, ◌&&◌}
use lib.ListN.{length, get_or}
use lib.Dec.{eqb, ltb}
use Rattle.format.specs.Lists.{pick}
use Rattle.format.specs.Header.{Form}
use Rattle.format.specs.Pairs.{Fragment, Content, Relocation, Pair, skipped, placed}
use Rattle.format.specs.Outcome.{Outcome, fine, refused, and_then, fold}
use Rattle.format.specs.Mode.{gives}
use Rattle.format.specs.Records.{Taken}
use Rattle.format.specs.Tables.{Tables, rank}
use Rattle.format.specs.Fixups.{Reference, Fixup, Site, reference, fixup_of, fixup_to, fixup_at, fixups_at, of_area}
use Rattle.format.specs.Placing.{State, Walk, passed_over, write, walk, walk_by, place_at, place_line, place_in, place_body, place_pair, placing}
use Rattle.format.specs.WorkLine.{in_line}
use Rattle.laws.proofs.Outcomes.{chain, passed, unlike}
unfoldable pub use Rattle.laws.specs.PairRows.{row_to, rows_at, rows_of, image_of, walk_of, rows_in, pair_rows, all_rows, rows_for, pair_rows_for, area_rows}

added-to : (w : Site) (i position : ℕ) (f : Fragment) (xs ys : List Fixup) (o : Outcome (Option Reference))
    → and_then o (λ r. fixup_to w i position f xs r) ≡ fine ys → ys ≡ xs ++ row_to w i position f o
added-to w i position f xs ys (refused n p) h = unlike n p ys h
added-to w i position f xs ys (fine none) h = let same : xs ≡ ys = cc in sym same ∙ sym (append-nil xs)
added-to w i position f xs ys (fine (some r)) h =
    let one = passed (ltb i (length w.numbers)) _ 12 w.place ys h in
    let two = passed (ltb (length xs) 1024) _ 13 w.place ys one.1 in
    cc two.1

added-one : (w : Site) (i position : ℕ) (f : Fragment) (xs ys : List Fixup) (t : Bool)
    → pick t (and_then (reference w.tables w.place f) (λ r. fixup_to w i position f xs r)) (fine xs) ≡ fine ys
    → ys ≡ xs ++ pick t (row_to w i position f (reference w.tables w.place f)) []
added-one w i position f xs ys true h = added-to w i position f xs ys (reference w.tables w.place f) h
added-one w i position f xs ys false h = let same : xs ≡ ys = cc in sym same ∙ sym (append-nil xs)

added-at : (w : Site) (entry position i : ℕ) (fs : List Fragment) (xs ys : List Fixup) → fixups_at w entry position i fs xs ≡ fine ys → ys ≡ xs ++ rows_at w entry position i fs
unfolding fixups_at fixup_at rows_at
added-at w entry position i [] xs ys h = let same : xs ≡ ys = cc in sym same ∙ sym (append-nil xs)
added-at w entry position i (f ∷ fs) xs ys h =
    let k = chain (fixup_at w entry position i f xs) _ ys h in
    let one = added-one w i position f xs k.value (eqb f.entry entry && gives f.mode) k.first in
    added-at w entry position (suc i) fs k.value ys k.second
    ∙ (ap (λ (z : List Fixup). z ++ rows_at w entry position (suc i) fs) one ∙ append_assoc xs _ _)

-- what a walk did
pub record Walked (w : Walk) (n entry position : ℕ) (s u : State) : Type 0 where
  pub values : u.values ≡ image_of w w.work.values n entry position s.values
  pub masks : u.masks ≡ image_of w w.work.masks n entry position s.masks
  pub fixups : u.fixups ≡ s.fixups ++ rows_of w n entry position

walked_none : (w : Walk) (entry position : ℕ) (s u : State) → ◌≡◌ {A = Outcome State} (fine s) (fine u) → Walked w 0 entry position s u
unfolding image_of rows_of
walked_none w entry position s u h =
    let same : s ≡ u = cc in
    record {
      values = ap (λ (x : State). x.values) (sym same);
      masks = ap (λ (x : State). x.masks) (sym same);
      fixups = ap (λ (x : State). x.fixups) (sym same) ∙ sym (append-nil s.fixups);
    }

-- one entry, inside the area or not, kept or not
walked-out : (w : Walk) (n entry position : ℕ) (s u : State) → ltb position w.size ≡ false → ◌≡◌ {A = Outcome State} (fine s) (fine u) → Walked w (suc n) entry position s u
unfolding image_of rows_of
walked-out w n entry position s u e h =
    let a = walked_none w entry position s u h in
    record { values = rw e a.values; masks = rw e a.masks; fixups = rw e a.fixups }

walked_on : (w : Walk) (n entry position : ℕ) (s : State) (xs : List Fixup) (u : State) → ltb position w.size ≡ true → eqb (get_or w.work.keeps entry 0) 1 ≡ true
    → xs ≡ s.fixups ++ rows_at w.site entry position 0 w.fragments → Walked w n (suc entry) (suc position) (write w entry position s xs) u → Walked w (suc n) entry position s u
unfolding image_of rows_of write
walked_on w n entry position s xs u e g a h = record {
  values = rw (e, g) h.values;
  masks = rw (e, g) h.masks;
  fixups = rw (e, g) (h.fixups ∙ (ap (λ (z : List Fixup). z ++ rows_of w n (suc entry) (suc position)) a ∙ append_assoc s.fixups (rows_at w.site entry position 0 w.fragments) (rows_of w n (suc entry) (suc position))));
}

walked-past : (w : Walk) (n entry position : ℕ) (s : State) (xs : List Fixup) (u : State) → ltb position w.size ≡ true → eqb (get_or w.work.keeps entry 0) 1 ≡ false
    → xs ≡ s.fixups ++ rows_at w.site entry position 0 w.fragments → Walked w n (suc entry) position (passed_over s xs) u → Walked w (suc n) entry position s u
unfolding image_of rows_of passed_over
walked-past w n entry position s xs u e g a h = record {
  values = rw (e, g) h.values;
  masks = rw (e, g) h.masks;
  fixups = rw (e, g) (h.fixups ∙ (ap (λ (z : List Fixup). z ++ rows_of w n (suc entry) position) a ∙ append_assoc s.fixups (rows_at w.site entry position 0 w.fragments) (rows_of w n (suc entry) position)));
}

-- by the tests
walked-kept : (w : Walk) (n entry position : ℕ) (s : State) (xs : List Fixup) (u : State) (k : Bool) → ltb position w.size ≡ true → eqb (get_or w.work.keeps entry 0) 1 ≡ k
    → xs ≡ s.fixups ++ rows_at w.site entry position 0 w.fragments
    → ((x : State) → walk w n (suc entry) (suc position) x ≡ fine u → Walked w n (suc entry) (suc position) x u)
    → ((x : State) → walk w n (suc entry) position x ≡ fine u → Walked w n (suc entry) position x u)
    → pick k (walk w n (suc entry) (suc position) (write w entry position s xs)) (walk w n (suc entry) position (passed_over s xs)) ≡ fine u → Walked w (suc n) entry position s u
walked-kept w n entry position s xs u true e g a f f' h = walked_on w n entry position s xs u e g a (f (write w entry position s xs) h)
walked-kept w n entry position s xs u false e g a f f' h = walked-past w n entry position s xs u e g a (f' (passed_over s xs) h)

walked_step : (w : Walk) (n entry position : ℕ) (s u : State) (t : Bool) → ltb position w.size ≡ t
    → ((x : State) → walk w n (suc entry) (suc position) x ≡ fine u → Walked w n (suc entry) (suc position) x u)
    → ((x : State) → walk w n (suc entry) position x ≡ fine u → Walked w n (suc entry) position x u)
    → pick t (and_then (fixups_at w.site entry position 0 w.fragments s.fixups) (λ v. pick (eqb (get_or w.work.keeps entry 0) 1) (walk w n (suc entry) (suc position) (write w entry position s v)) (walk w n (suc entry) position (passed_over s v)))) (fine s) ≡ fine u
    → Walked w (suc n) entry position s u
walked_step w n entry position s u true e f f' h =
    let k = chain (fixups_at w.site entry position 0 w.fragments s.fixups) _ u h in
    walked-kept w n entry position s k.value u (eqb (get_or w.work.keeps entry 0) 1) e refl
    (added-at w.site entry position 0 w.fragments s.fixups k.value k.first) f f' k.second
walked_step w n entry position s u false e f f' h = walked-out w n entry position s u e h

pub walked : (w : Walk) (n entry position : ℕ) (s u : State) → walk w n entry position s ≡ fine u → Walked w n entry position s u
unfolding walk
walked w zero entry position s u h = walked_none w entry position s u h
walked w (suc n) entry position s u h =
    walked_step w n entry position s u (ltb position w.size) refl
    (λ x. walked w n (suc entry) (suc position) x u) (λ x. walked w n (suc entry) position x u) h

-- ------------------------------------------------------------------ pair by pair, and area by area

same-fixups : (s u : State) → ◌≡◌ {A = Outcome State} (fine s) (fine u) → u.fixups ≡ s.fixups ++ []
same-fixups s u h = let same : s ≡ u = cc in ap (λ (x : State). x.fixups) (sym same) ∙ sym (append-nil s.fixups)

fixups-in : (fm : Form) (t : Tables) (place : ℕ) (c : Content) (r : Relocation) (o : Option ℕ) (s u : State)
    → place_in fm t place c r s o ≡ fine u → u.fixups ≡ s.fixups ++ rows_in fm t place c r o
unfolding place_line place_at walk_of
fixups-in fm t place c r none s u h = same-fixups s u h
fixups-in fm t place c r (some id) s u h =
    let k = chain (fold (in_line fm.address_length (length c.bytes) place) 0 r.fragments) _ u h in
    (walked (walk_of fm t place id c r) (fm.address_length + length c.bytes) 0 c.address s u k.second).fixups

fixups-body : (fm : Form) (t : Tables) (place : ℕ) (b : Pair) (s u : State) → place_body fm t place s b ≡ fine u → u.fixups ≡ s.fixups ++ pair_rows fm t place b
fixups-body fm t place skipped s u h = same-fixups s u h
fixups-body fm t place (placed c r) s u h = fixups-in fm t place c r (rank 0 t.areas r.area) s u h

fixups-fold : (fm : Form) (t : Tables) (ps : List (Taken Pair)) (s u : State) → fold (place_pair fm t) s ps ≡ fine u → u.fixups ≡ s.fixups ++ all_rows fm t ps
unfolding fold place_pair all_rows
fixups-fold fm t [] s u h = same-fixups s u h
fixups-fold fm t (p ∷ ps) s u h =
    let k = chain (place_pair fm t s p) (λ v. fold (place_pair fm t) v ps) u h in
    fixups-fold fm t ps k.value u k.second
    ∙ (ap (λ (z : List Fixup). z ++ all_rows fm t ps) (fixups-body fm t p.place p.body s k.value k.first)
    ∙ append_assoc s.fixups (pair_rows fm t p.place p.body) (all_rows fm t ps))

-- the fixups of a text are the rows of its pairs, in text order
pub placing-rows : (fm : Form) (t : Tables) (ps : List (Taken Pair)) (s : State) → placing fm t ps ≡ fine s → s.fixups ≡ all_rows fm t ps
unfolding placing
placing-rows fm t ps s h = fixups-fold fm t ps _ s h

-- the rows of one area
pub of-append : (id : ℕ) (xs ys : List Fixup) → of_area id (xs ++ ys) ≡ of_area id xs ++ of_area id ys
unfolding of_area
of-append id [] ys = refl
of-append id (x ∷ xs) ys = go (eqb x.home id) (of-append id xs ys)
  where
    go : (t : Bool) → of_area id (xs ++ ys) ≡ of_area id xs ++ of_area id ys → pick t (x ∷ of_area id (xs ++ ys)) (of_area id (xs ++ ys)) ≡ pick t (x ∷ of_area id xs) (of_area id xs) ++ of_area id ys
    go true ih = ap (λ (z : List Fixup). x ∷ z) ih
    go false ih = ih

AtHome : ℕ → List Fixup → Type 0
AtHome h [] = Unit {0}
AtHome h (x ∷ xs) = (x.home ≡ h) × AtHome h xs

home-nil : (h : ℕ) → AtHome h []
unfolding AtHome
home-nil h = tt

home-append : (h : ℕ) (xs ys : List Fixup) → AtHome h xs → AtHome h ys → AtHome h (xs ++ ys)
unfolding AtHome
home-append h [] ys p q = q
home-append h (x ∷ xs) ys p q = (p.0, home-append h xs ys p.1 q)

home-pick : (h : ℕ) (t : Bool) (xs ys : List Fixup) → AtHome h xs → AtHome h ys → AtHome h (pick t xs ys)
home-pick h true xs ys p q = p
home-pick h false xs ys p q = q

home-to : (w : Site) (i position : ℕ) (f : Fragment) (o : Outcome (Option Reference)) → AtHome w.home (row_to w i position f o)
unfolding AtHome fixup_of
home-to w i position f (fine (some r)) = (refl, tt)
home-to w i position f (fine none) = tt
home-to w i position f (refused n p) = tt

home_at : (w : Site) (entry position i : ℕ) (fs : List Fragment) → AtHome w.home (rows_at w entry position i fs)
unfolding rows_at
home_at w entry position i [] = home-nil w.home
home_at w entry position i (f ∷ fs) =
    home-append w.home _ _ (home-pick w.home (eqb f.entry entry && gives f.mode) _ _ (home-to w i position f (reference w.tables w.place f)) (home-nil w.home))
    (home_at w entry position (suc i) fs)

home_of : (w : Walk) (n entry position : ℕ) → AtHome w.site.home (rows_of w n entry position)
unfolding rows_of
home_of w zero entry position = home-nil w.site.home
home_of w (suc n) entry position =
    home-pick w.site.home (ltb position w.size) _ _
    (home-append w.site.home _ _ (home_at w.site entry position 0 w.fragments)
    (home-pick w.site.home (eqb (get_or w.work.keeps entry 0) 1) _ _ (home_of w n (suc entry) (suc position)) (home_of w n (suc entry) position)))
    (home-nil w.site.home)

-- all or none
of-home : (id h : ℕ) (xs : List Fixup) → AtHome h xs → of_area id xs ≡ pick (eqb h id) xs []
unfolding of_area AtHome
of-home id h [] p = go (eqb h id)
  where
    go : (t : Bool) → ◌≡◌ {A = List Fixup} [] (pick t [] [])
    go true = refl
    go false = refl
of-home id h (x ∷ xs) p = let same : eqb x.home id ≡ eqb h id = ap (λ (z : ℕ). eqb z id) p.0 in rw same (go (eqb h id) (of-home id h xs p.1))
  where
    go : (t : Bool) → of_area id xs ≡ pick t xs [] → pick t (x ∷ of_area id xs) (of_area id xs) ≡ pick t (x ∷ xs) []
    go true ih = ap (λ (z : List Fixup). x ∷ z) ih
    go false ih = ih

rows-for : (fm : Form) (t : Tables) (id place : ℕ) (c : Content) (r : Relocation) (o : Option ℕ) → of_area id (rows_in fm t place c r o) ≡ rows_for fm t id place c r o
unfolding of_area walk_of walk_by
rows-for fm t id place c r none = refl
rows-for fm t id place c r (some h) = of-home id h (rows_in fm t place c r (some h)) (home_of (walk_of fm t place h c r) (fm.address_length + length c.bytes) 0 c.address)

pub pair-rows-for : (fm : Form) (t : Tables) (id place : ℕ) (b : Pair) → of_area id (pair_rows fm t place b) ≡ pair_rows_for fm t id place b
unfolding of_area
pair-rows-for fm t id place skipped = refl
pair-rows-for fm t id place (placed c r) = rows-for fm t id place c r (rank 0 t.areas r.area)

-- an area's fixups are the rows of the pairs that lie in it, in text order
pub area-rows : (fm : Form) (t : Tables) (id : ℕ) (ps : List (Taken Pair)) → of_area id (all_rows fm t ps) ≡ area_rows fm t id ps
unfolding all_rows area_rows of_area
area-rows fm t id [] = refl
area-rows fm t id (p ∷ ps) =
    of-append id (pair_rows fm t p.place p.body) (all_rows fm t ps)
    ∙ (ap (λ (z : List Fixup). z ++ of_area id (all_rows fm t ps)) (pair-rows-for fm t id p.place p.body)
    ∙ ap (λ (z : List Fixup). pair_rows_for fm t id p.place p.body ++ z) (area-rows fm t id ps))
