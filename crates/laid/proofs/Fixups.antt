-- The corrected target of a fixup's laid bytes is the address that it refers to.
-- Assumes nothing.
use Prim.Native.Nat.{ℕ, zero, suc, ◌+◌, ◌/◌, ◌^◌, ◌≤◌, ◌<◌}
use mathlib.Core.Path.{◌≡◌, refl, sym, ap, subst, ◌∙◌}
use mathlib.Core.Bool.{Bool, true, false, not, ◌&&◌, false≢true}
use mathlib.Core.List.{List, [], ◌∷◌, Memᴰ}
use mathlib.Core.Option.{Option, none, some}
use native.Mathlib.Omega.{arith}
use lib.ListN.{length, get_or, take, drop, replicate, length-replicate}
use lib.Dec.{eqb}
use borrow.Author.Tests.{eqb-true, not-true}
use Rattle.format.specs.Lists.{pick}
use Rattle.format.specs.Header.{Form}
use Rattle.format.specs.Pairs.{Content, Relocation, Pair, skipped, placed}
use Rattle.format.specs.Mode.{bit, class_of, on_site}
use Rattle.format.specs.Outcome.{fine, fold}
use Rattle.format.specs.Records.{Taken}
use Rattle.format.specs.Tables.{Area, Tables, kept, kept_count, total, rank, offset}
use Rattle.format.specs.Fixups.{Fixup, of_area, by_area}
use Rattle.format.specs.Placing.{State, walk_by, extent, place_in, place_body, place_pair, placing}
use Rattle.format.specs.Target.{wrap_add, closing}
use Rattle.format.specs.Corrected.{corrected}
use Rattle.format.specs.Reading.{Lent, Read, read, fixups_of}
use Rattle.laws.proofs.Outcomes.{chain}
use Rattle.laws.proofs.Placing.{walk_of, rows_in, pair_rows, all_rows, placing-rows}
use Rattle.order.specs.Writes.{Cell, cells_in, cells_by, cell_at, writes, written}
use Rattle.order.proofs.Areas.{ends-inside}
use Rattle.laws.proofs.WasRead.{what-was-read}
use Rattle.laid.specs.Laid.{Chosen, referred, own_address, in_bytes, laid_content, laid_line, laid_in, laid_by, laid_pairs, laid_bytes}
use Rattle.laid.specs.Fit.{whole, fit_fragments, fit_by, misses, misses_all, fit, fit_read, laid_read}
use Rattle.laid.specs.Well.{Near, Housed}
use Rattle.laid.proofs.Sets.{part-is}
use Rattle.laid.proofs.Reach.{length-bytes, back}
use Rattle.laid.specs.Words.{Each}
use Rattle.laid.proofs.Bounds.{Byte, ShortMode, SmallPair, SmallPairs, read_small}
use Rattle.laid.proofs.Step.{Ready, both_true}
use Rattle.laid.proofs.Cells.{CellIs, here, nowhere}
use Rattle.laid.proofs.Pattern.{cells-content, content-cell, laid-here, laid-elsewhere, placed-ready, body-length, pairs-length}
use Rattle.laid.proofs.Rows.{each_append, Row, pair-rows}

-- ------------------------------------------------------------------ no common position

no-some : {A C : Type 0} (a : A) → ◌≡◌ {A = Option A} none (some a) → C
no-some a e = let z : ◌≡◌ {A = ℕ} 0 1 = cc in let y : ⊥ = omega arith in absurd y

unwritten : (o : Option Cell) → written o ≡ false → o ≡ none
unwritten none e = refl
unwritten (some c) e = absurd (false≢true (sym e))

misses-at : (cs ds : List Cell) (i : ℕ) (c : Cell) → misses cs ds ≡ true → cell_at cs i ≡ some c → cell_at ds i ≡ none
unfolding misses cell_at
misses-at [] ds i c h e = no-some c e
misses-at (d ∷ cs) ds i c h e =
    go (eqb d.at i) refl (misses-at cs ds i c (both_true (not (written (cell_at ds d.at))) (misses cs ds) h).1) e
  where
    go : (t : Bool) → eqb d.at i ≡ t → (cell_at cs i ≡ some c → cell_at ds i ≡ none) → pick t (some d) (cell_at cs i) ≡ some c → cell_at ds i ≡ none
    go true f ih g =
        let b = both_true (not (written (cell_at ds d.at))) (misses cs ds) h in
        let z = unwritten (cell_at ds d.at) (not-true (written (cell_at ds d.at)) b.0) in
        rw (eqb-true d.at i f) at z
    go false f ih g = ih g

module _ (fm : Form) (t : Tables) (ch : Chosen) where
  module _ (image : List ℕ) (i : ℕ) where
    in_kept : (place : ℕ) (c : Content) (r : Relocation) (o : Option ℕ) (s u : State) → fit_fragments fm r.fragments ≡ true → place_in fm t place c r s o ≡ fine u
        → cell_at (cells_in fm t place c r o) i ≡ none → get_or (laid_in fm t ch place c r image o) i 0 ≡ get_or image i 0
    unfolding walk_of walk_by
    in_kept place c r none s u h e n = refl
    in_kept place c r (some id) s u h e n =
        go (content-cell fm t ch place id c r q i)
      where
        q : Ready fm (length c.bytes) r.fragments
        q = placed-ready fm t ch place id c r s u h e

        go : CellIs (walk_of fm t place id c r) (length c.bytes) fm.address_length c.address i → get_or (laid_line fm t ch place c r image) i 0 ≡ get_or image i 0
        go (nowhere g f) = laid-elsewhere fm t ch place id c r q image i g
        go (here j e' p' l ee ep ei b f) =
            no-some _ (sym n ∙ (ap (λ (cs : List Cell). cell_at cs i) (cells-content fm t ch place id c r q) ∙ f))

    body_kept : (place : ℕ) (b : Pair) (s u : State) → fit_by fm b ≡ true → place_body fm t place s b ≡ fine u → cell_at (cells_by fm t place b) i ≡ none
        → get_or (laid_by fm t ch place image b) i 0 ≡ get_or image i 0
    body_kept place skipped s u h e n = refl
    body_kept place (placed c r) s u h e n = in_kept place c r (rank 0 t.areas r.area) s u h e n

  -- what a pair wrote stays as the pairs behind it are laid
  pairs-kept : (p : Taken Pair) (i : ℕ) (c : Cell) → cell_at (writes fm t p) i ≡ some c → (qs : List (Taken Pair)) (s u : State) (image : List ℕ) → misses_all fm t p qs ≡ true → fit fm t qs ≡ true
      → fold (place_pair fm t) s qs ≡ fine u → get_or (laid_pairs fm t ch qs image) i 0 ≡ get_or image i 0
  unfolding misses_all fit fold laid_pairs place_pair writes
  pairs-kept p i c w [] s u image m h e = refl
  pairs-kept p i c w (q ∷ qs) s u image m h e =
      let k = chain (place_pair fm t s q) (λ x. fold (place_pair fm t) x qs) u e in
      let b = both_true (fit_by fm q.body) (misses_all fm t q qs && fit fm t qs) h in
      let d = both_true (misses_all fm t q qs) (fit fm t qs) b.1 in
      let o = both_true (misses (writes fm t p) (writes fm t q)) (misses_all fm t p qs) m in
      pairs-kept p i c w qs k.value u (laid_by fm t ch q.place image q.body) o.1 d.1 k.second
      ∙ body_kept image i q.place q.body s k.value b.0 k.first (misses-at (writes fm t p) (writes fm t q) i c o.0 w)

-- ------------------------------------------------------------------ a row whose bytes are laid

pub record Stands (fm : Form) (t : Tables) (ch : Chosen) (laid : List ℕ) (x : Fixup) : Type 0 where
  pub area : ℕ
  pub rank_is : rank 0 t.areas area ≡ some x.home
  pub size_is : x.size ≡ on_site x.mode
  pub is_whole : whole (class_of x.mode) ≡ true
  pub plain : bit 2 x.mode ≡ false
  pub mode_small : x.mode < 2048
  pub number_small : x.number < 2 ^ 24
  pub bytes : x.position + x.size ≤ extent t.areas area
      → take x.size (drop (offset t.areas area + x.position) laid) ≡ in_bytes fm.big x.size (wrap_add (referred ch x.refers) x.number)

each_map : {A : Type 0} (P Q : A → Type 0) (xs : List A) → ((x : A) → P x → Q x) → Each P xs → Each Q xs
each_map P Q [] f h = tt
each_map P Q (x ∷ xs) f h = (f x h.0, each_map P Q xs f h.1)

module _ (fm : Form) (t : Tables) (ch : Chosen) (place id : ℕ) (c : Content) (r : Relocation) (ek : rank 0 t.areas r.area ≡ some id) (q : Ready fm (length c.bytes) r.fragments)
    (image laid : List ℕ) (li : length image ≡ total t.areas) (ll : length laid ≡ total t.areas)
    (stays : (i : ℕ) (d : Cell) → cell_at (cells_in fm t place c r (some id)) i ≡ some d → get_or laid i 0 ≡ get_or (laid_line fm t ch place c r image) i 0) where
  row-byte : (i j : ℕ) → i ≡ offset t.areas r.area + (c.address + j) → j < length c.bytes → c.address + j < extent t.areas r.area
      → get_or laid i 0 ≡ get_or (laid_content fm t ch place c r) j 0
  unfolding walk_of walk_by
  row-byte i j e l b = go (content-cell fm t ch place id c r q i)
    where
      go : CellIs (walk_of fm t place id c r) (length c.bytes) fm.address_length c.address i → get_or laid i 0 ≡ get_or (laid_content fm t ch place c r) j 0
      go (nowhere g f) = absurd (g j l e b)
      go (here j' e' p' l' ee ep ei b' f) =
          stays i _ (ap (λ (cs : List Cell). cell_at cs i) (cells-content fm t ch place id c r q) ∙ f)
          ∙ laid-here fm t ch place id c r q image i j e l b (omega (arith, ends-inside t.areas r.area))

  row-stands : (x : Fixup) → Row fm ch id c.address c.bytes (laid_content fm t ch place c r) x → Stands fm t ch laid x
  row-stands x w = record {
    area = r.area;
    rank_is = ek ∙ ap (λ (n : ℕ). some n) (sym w.home-is);
    size_is = w.size_is;
    is_whole = w.is_whole;
    plain = w.plain;
    mode_small = w.mode_small;
    number_small = w.number_small;
    bytes = λ h.
        let v = wrap_add (referred ch x.refers) x.number in
        let e = ends-inside t.areas r.area in
        part-is x.size (offset t.areas r.area + x.position) laid (in_bytes fm.big x.size v) (length-bytes fm.big x.size v) (omega (arith))
        (λ k l.
        row-byte (offset t.areas r.area + x.position + k) (w.at + k) (omega (arith, w.position-is)) (omega (arith, w.ends, w.size_is)) (omega (arith, w.position-is))
        ∙ (w.bytes k (omega (arith, w.size_is)) ∙ ap (λ (n : ℕ). get_or (in_bytes fm.big n v) k 0) (sym w.size_is)));
  }

module _ (fm : Form) (t : Tables) (ch : Chosen) where
  in-stand : (place : ℕ) (c : Content) (r : Relocation) (o : Option ℕ) (s u : State) (image laid : List ℕ) → rank 0 t.areas r.area ≡ o → fit_fragments fm r.fragments ≡ true
      → place_in fm t place c r s o ≡ fine u → Each Byte c.bytes × Each ShortMode r.fragments → length image ≡ total t.areas → length laid ≡ total t.areas
      → ((i : ℕ) (d : Cell) → cell_at (cells_in fm t place c r o) i ≡ some d → get_or laid i 0 ≡ get_or (laid_in fm t ch place c r image o) i 0)
      → Each (Stands fm t ch laid) (rows_in fm t place c r o)
  in-stand place c r none s u image laid eo h e sm li ll f = tt
  in-stand place c r (some id) s u image laid eo h e sm li ll f =
      let q = placed-ready fm t ch place id c r s u h e in
      each_map (Row fm ch id c.address c.bytes (laid_content fm t ch place c r)) (Stands fm t ch laid) (rows_in fm t place c r (some id))
      (row-stands fm t ch place id c r eo q image laid li ll f) (pair-rows fm t ch place id c r q sm.0 sm.1)

  body-stand : (place : ℕ) (b : Pair) (s u : State) (image laid : List ℕ) → fit_by fm b ≡ true → place_body fm t place s b ≡ fine u → SmallPair b → length image ≡ total t.areas
      → length laid ≡ total t.areas → ((i : ℕ) (d : Cell) → cell_at (cells_by fm t place b) i ≡ some d → get_or laid i 0 ≡ get_or (laid_by fm t ch place image b) i 0)
      → Each (Stands fm t ch laid) (pair_rows fm t place b)
  body-stand place skipped s u image laid h e sm li ll f = tt
  body-stand place (placed c r) s u image laid h e sm li ll f = in-stand place c r (rank 0 t.areas r.area) s u image laid refl h e sm li ll f

  all-stand : (ps : List (Taken Pair)) (s u : State) (image : List ℕ) → fit fm t ps ≡ true → fold (place_pair fm t) s ps ≡ fine u → SmallPairs ps → length image ≡ total t.areas
      → Each (Stands fm t ch (laid_pairs fm t ch ps image)) (all_rows fm t ps)
  unfolding fit fold laid_pairs all_rows place_pair writes
  all-stand [] s u image h e sm li = tt
  all-stand (p ∷ ps) s u image h e sm li =
      let k = chain (place_pair fm t s p) (λ x. fold (place_pair fm t) x ps) u e in
      let b = both_true (fit_by fm p.body) (misses_all fm t p ps && fit fm t ps) h in
      let d = both_true (misses_all fm t p ps) (fit fm t ps) b.1 in
      let next = laid_by fm t ch p.place image p.body in
      let ln = body-length fm t ch p.place image p.body ∙ li in
      each_append (Stands fm t ch (laid_pairs fm t ch ps next)) (pair_rows fm t p.place p.body) (all_rows fm t ps)
      (body-stand p.place p.body s k.value image (laid_pairs fm t ch ps next) b.0 k.first sm.0 li (pairs-length fm t ch ps next ∙ ln)
      (λ i x w. pairs-kept fm t ch p i x w ps k.value u next d.0 d.1 k.second))
      (all-stand ps k.value u next d.1 k.second sm.1 ln)

  pub fixups-stand : (ps : List (Taken Pair)) (s : State) → fit fm t ps ≡ true → placing fm t ps ≡ fine s → SmallPairs ps → Each (Stands fm t ch (laid_bytes fm t ch ps)) s.fixups
  unfolding placing laid_bytes
  fixups-stand ps s h e sm =
      let n = total t.areas in
      rw (placing-rows fm t ps s e) (all-stand ps _ s (replicate n 0) h e sm (length-replicate {A = ℕ} n 0))

-- ------------------------------------------------------------------ one area with an id

no-rank : {C : Type 0} (n : ℕ) → ◌≡◌ {A = Option ℕ} none (some n) → C
no-rank n e = no-some n e

rank-low : (k : ℕ) (areas : List Area) (i m : ℕ) → rank k areas i ≡ some m → k ≤ m
unfolding rank
rank-low k [] i m e = no-rank m e
rank-low k (a ∷ areas) zero m e = go (kept a) e
  where
    go : (t : Bool) → pick t (some k) none ≡ some m → k ≤ m
    go true h = let same : k ≡ m = cc in omega arith
    go false h = no-rank m h
rank-low k (a ∷ areas) (suc i) m e = omega (arith, rank-low (k + pick (kept a) 1 0) areas i m e)

first-only : (a : Area) (k : ℕ) (areas : List Area) (j m : ℕ) {C : Type 0} → pick (kept a) (some k) none ≡ some m → rank (k + pick (kept a) 1 0) areas j ≡ some m → C
first-only a k areas j m {C} e f = go (kept a) e (rank-low (k + pick (kept a) 1 0) areas j m f)
  where
    go : (t : Bool) → pick t (some k) none ≡ some m → k + pick t 1 0 ≤ m → C
    go true h l = let same : k ≡ m = cc in let y : ⊥ = omega arith in absurd y
    go false h l = no-rank m h

-- no two areas have one id
pub rank-one : (k : ℕ) (areas : List Area) (i j m : ℕ) → rank k areas i ≡ some m → rank k areas j ≡ some m → i ≡ j
unfolding rank
rank-one k [] i j m e f = no-rank m e
rank-one k (a ∷ areas) zero zero m e f = refl
rank-one k (a ∷ areas) zero (suc j) m e f = first-only a k areas j m e f
rank-one k (a ∷ areas) (suc i) zero m e f = first-only a k areas i m f e
rank-one k (a ∷ areas) (suc i) (suc j) m e f = ap suc (rank-one (k + pick (kept a) 1 0) areas i j m e f)

-- ------------------------------------------------------------------ the target

stands-reaches : (fm : Form) (t : Tables) (ch : Chosen) (laid : List ℕ) (x : Fixup) (a : ℕ) → Stands fm t ch laid x → rank 0 t.areas a ≡ some x.home
    → x.position + x.size ≤ extent t.areas a → referred ch x.refers / 2 ^ closing (class_of x.mode) ≡ own_address ch x / 2 ^ closing (class_of x.mode)
    → corrected fm.big x.mode x.number (take x.size (drop (offset t.areas a + x.position) laid)) (own_address ch x) ≡ fine (referred ch x.refers)
stands-reaches fm t ch laid x a w ea h e =
    let same : w.area ≡ a = rank-one 0 t.areas w.area a x.home w.rank_is ea in
    let own = own_address ch x in
    let v = wrap_add (referred ch x.refers) x.number in
    let bytes : take x.size (drop (offset t.areas a + x.position) laid) ≡ in_bytes fm.big x.size v =
    subst (λ (n : ℕ). take x.size (drop (offset t.areas n + x.position) laid) ≡ in_bytes fm.big x.size v) same
    (w.bytes (subst (λ (n : ℕ). x.position + x.size ≤ extent t.areas n) (sym same) h)) in
    ap (λ (bs : List ℕ). corrected fm.big x.mode x.number bs own) (bytes ∙ ap (λ (n : ℕ). in_bytes fm.big n v) w.size_is)
    ∙ back fm.big x.mode x.number (referred ch x.refers) own w.mode_small w.number_small w.is_whole w.plain e

pub each_member : {A : Type 0} (P : A → Type 0) {x : A} {xs : List A} → Memᴰ x xs → Each P xs → P x
each_member P (Memᴰ.head e) h = subst P (sym e) h.0
each_member P (Memᴰ.tail m) h = each_member P m h.1

-- B: of an accepted module that is fit, every fixup that lies wholly in its area (the a-th), and whose referred address shares the block above 16 (or
-- 24) bits with the fixup's own, has the referred address as the corrected target of its laid bytes
pub laid-fixups-reach-what-they-refer-to : (ended : Bool) (b : Lent) (text : List ℕ) (w : Read) (ch : Chosen) → read ended b text ≡ fine w → fit_read w ≡ true
    → (x : Fixup) → Memᴰ x w.built.state.fixups → (a : ℕ) → rank 0 w.built.tables.areas a ≡ some x.home
    → x.position + x.size ≤ extent w.built.tables.areas a
    → referred ch x.refers / 2 ^ closing (class_of x.mode) ≡ own_address ch x / 2 ^ closing (class_of x.mode)
    → corrected w.parsed.form.big x.mode x.number (take x.size (drop (offset w.built.tables.areas a + x.position) (laid_read ch w))) (own_address ch x)
    ≡ fine (referred ch x.refers)
unfolding fit_read laid_read
laid-fixups-reach-what-they-refer-to ended b text w ch e h x m a ea l s =
    let fm = w.parsed.form in
    let t = w.built.tables in
    let ps = w.parsed.records.pairs in
    let stand = fixups-stand fm t ch ps w.built.state h (what-was-read ended b text w e).builds.placed (read_small ended b text w e) in
    stands-reaches fm t ch (laid_bytes fm t ch ps) x a (each_member (Stands fm t ch (laid_bytes fm t ch ps)) m stand) ea l s

-- ------------------------------------------------------------------ the fixups as they are given back

each_of : (P : Fixup → Type 0) (id : ℕ) (xs : List Fixup) → Each P xs → Each P (of_area id xs)
unfolding of_area
each_of P id [] h = tt
each_of P id (x ∷ xs) h = go (eqb x.home id) (each_of P id xs h.1)
  where
    go : (t : Bool) → Each P (of_area id xs) → Each P (pick t (x ∷ of_area id xs) (of_area id xs))
    go true k = (h.0, k)
    go false k = k

each-by : (P : Fixup → Type 0) (n id : ℕ) (xs : List Fixup) → Each P xs → Each P (by_area n id xs)
unfolding by_area
each-by P zero id xs h = tt
each-by P (suc n) id xs h = each_append P (of_area id xs) (by_area n (suc id) xs) (each_of P id xs h) (each-by P n (suc id) xs h)

given-stand : (ended : Bool) (b : Lent) (text : List ℕ) (w : Read) (ch : Chosen) → read ended b text ≡ fine w → fit_read w ≡ true → (x : Fixup) → Memᴰ x (fixups_of w.built)
    → Stands w.parsed.form w.built.tables ch (laid_read ch w) x
unfolding fit_read laid_read fixups_of
given-stand ended b text w ch e h x m =
    let fm = w.parsed.form in
    let t = w.built.tables in
    let ps = w.parsed.records.pairs in
    let P = Stands fm t ch (laid_bytes fm t ch ps) in
    let stand = fixups-stand fm t ch ps w.built.state h (what-was-read ended b text w e).builds.placed (read_small ended b text w e) in
    each_member P m (each-by P (kept_count t.areas) 0 w.built.state.fixups stand)

-- each lies in one area
pub given-fixups-have-an-area : (ended : Bool) (b : Lent) (text : List ℕ) (w : Read) (ch : Chosen) → read ended b text ≡ fine w → fit_read w ≡ true → (x : Fixup)
    → Memᴰ x (fixups_of w.built) → Housed w x
given-fixups-have-an-area ended b text w ch e h x m =
    let s = given-stand ended b text w ch e h x m in
    record { area = s.area; in_area = s.rank_is; only = λ a r. rank-one 0 w.built.tables.areas s.area a x.home s.rank_is r }

-- B of every fixup that the reading gives back
pub given-fixups-reach-what-they-refer-to : (ended : Bool) (b : Lent) (text : List ℕ) (w : Read) (ch : Chosen) → read ended b text ≡ fine w → fit_read w ≡ true
    → (x : Fixup) → Memᴰ x (fixups_of w.built) → (a : ℕ) → Near w ch x a
    → corrected w.parsed.form.big x.mode x.number (take x.size (drop (offset w.built.tables.areas a + x.position) (laid_read ch w))) (own_address ch x)
    ≡ fine (referred ch x.refers)
given-fixups-reach-what-they-refer-to ended b text w ch e h x m a n =
    stands-reaches w.parsed.form w.built.tables ch (laid_read ch w) x a (given-stand ended b text w ch e h x m) n.in_area n.wholly n.one_block
