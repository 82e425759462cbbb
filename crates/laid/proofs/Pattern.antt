-- Every laid byte agrees with the pattern.
-- Assumes nothing.
use Prim.Native.Nat.{ℕ, ◌+◌, ◌-◌, ◌%◌, ◌/◌, ◌^◌, ◌≤◌, ◌<◌}
use mathlib.Core.Path.{◌≡◌, refl, sym, ap, ◌∙◌}
use mathlib.Core.Bool.{Bool, true, ◌&&◌, false≢true}
use mathlib.Core.List.{List, [], ◌∷◌}
use mathlib.Core.Option.{Option, none, some}
use native.Mathlib.Omega.{arith}
use native.Mathlib.Nat.{zero-div}
use lib.ListN.{length, get_or, take, replicate, length-replicate, length-take, get_or-replicate}
use lib.Seq.{length-sets, get_or-take}
use lib.Dec.{eqb}
use Rattle.format.specs.Lists.{pick}
use Rattle.format.specs.Mode.{bit}
use Rattle.format.specs.Header.{Form}
use Rattle.format.specs.Pairs.{Content, Relocation, Pair, skipped, placed}
use Rattle.format.specs.Outcome.{fine, refused, fold}
use Rattle.format.specs.Records.{Taken}
use Rattle.format.specs.Tables.{Tables, total, rank, offset}
use Rattle.format.specs.Placing.{State, walk_by, extent, place_at, place_line, place_in, place_body, place_pair, placing}
use Rattle.format.specs.WorkLine.{fresh, step_all, in_line}
use Rattle.format.specs.Reading.{Lent, Read, read}
use Rattle.laws.proofs.Outcomes.{chain, passed}
use Rattle.laws.proofs.Placing.{walk_of}
use Rattle.order.specs.Writes.{Cell, cell_of, cells_of, cells_in, cells_by, cell_at, writes, else_of}
use Rattle.order.proofs.Pair.{placing-a-pair-overwrites}
use Rattle.laws.proofs.WasRead.{what-was-read}
use Rattle.laid.specs.Laid.{Chosen, laid_content, laid_line, laid_in, laid_by, laid_pairs, laid_bytes}
use Rattle.laid.specs.Fit.{fit_fragments, fit_by, misses_all, fit, fit_read, laid_read, laid_of, Agrees, unknown, known}
use Rattle.laid.proofs.Sets.{Where, inside, outside, where-is, sets-in, sets-out}
use Rattle.laid.proofs.Step.{Ready, ready, both_true}
use Rattle.laid.proofs.Line.{InStep, in_step, agrees-as}
use Rattle.laid.proofs.Cells.{CellIs, here, nowhere, cells-skip, cell-is}

-- ------------------------------------------------------------------ one pair of a kept area

module _ (fm : Form) (t : Tables) (ch : Chosen) (place id : ℕ) (c : Content) (r : Relocation) (h : Ready fm (length c.bytes) r.fragments) where
  -- what its line is
  line : InStep fm.address_length (length c.bytes) (step_all fm r.fragments (fresh fm.address_length c.bytes)) (laid_content fm t ch place c r)
  line = in_step fm t ch place c r h

  -- its cells are those of the content
  pub cells-content : cells_of (walk_of fm t place id c r) (fm.address_length + length c.bytes) 0 c.address
      ≡ cells_of (walk_of fm t place id c r) (length c.bytes) fm.address_length c.address
  unfolding walk_of walk_by
  cells-content =
      cells-skip (walk_of fm t place id c r) fm.address_length (length c.bytes) (fm.address_length + length c.bytes) 0 fm.address_length c.address refl (omega arith)
      (λ x l u. line.dropped x u)

  pub content-cell : (i : ℕ) → CellIs (walk_of fm t place id c r) (length c.bytes) fm.address_length c.address i
  unfolding walk_of walk_by
  content-cell i = cell-is (walk_of fm t place id c r) (length c.bytes) fm.address_length c.address i line.kept

  -- what is laid at one of its positions, and at any other
  pub laid-here : (image : List ℕ) (i j : ℕ) → i ≡ offset t.areas r.area + (c.address + j) → j < length c.bytes → c.address + j < extent t.areas r.area → i < length image
      → get_or (laid_line fm t ch place c r image) i 0 ≡ get_or (laid_content fm t ch place c r) j 0
  unfolding laid_line
  laid-here image i j e l b u =
      let xs = laid_content fm t ch place c r in
      let m = extent t.areas r.area - c.address in
      sets-in (take m xs) image (offset t.areas r.area + c.address) j i (omega arith) (omega (arith, length-take m xs, line.length-is)) u
      ∙ get_or-take m xs j 0 (omega arith)

  pub laid-elsewhere : (image : List ℕ) (i : ℕ) → ((j : ℕ) → j < length c.bytes → i ≡ offset t.areas r.area + (c.address + j) → c.address + j < extent t.areas r.area → ⊥)
      → get_or (laid_line fm t ch place c r image) i 0 ≡ get_or image i 0
  unfolding laid_line
  laid-elsewhere image i g = sets-out (take m xs) image s i (go (where-is s (length (take m xs)) i))
    where
      xs : List ℕ
      xs = laid_content fm t ch place c r

      m : ℕ
      m = extent t.areas r.area - c.address

      s : ℕ
      s = offset t.areas r.area + c.address

      go : Where s (length (take m xs)) i → s ≤ i → s + length (take m xs) ≤ i
      go (outside f) = f
      go (inside k e l) = absurd (g k (omega (arith, length-take m xs, line.length-is)) (omega arith) (omega (arith, length-take m xs)))

  module _ (image : List ℕ) (i v m : ℕ) (u : i < length image) (a : Agrees v m (get_or image i 0)) where
    kept-agrees : Agrees (else_of (λ (x : Cell). x.value) (cell_at (cells_of (walk_of fm t place id c r) (fm.address_length + length c.bytes) 0 c.address) i) v)
        (else_of (λ (x : Cell). x.mask) (cell_at (cells_of (walk_of fm t place id c r) (fm.address_length + length c.bytes) 0 c.address) i) m)
        (get_or (laid_line fm t ch place c r image) i 0)
    unfolding walk_of walk_by cell_of
    kept-agrees = rw cells-content (go (content-cell i))
      where
        go : CellIs (walk_of fm t place id c r) (length c.bytes) fm.address_length c.address i
            → Agrees (else_of (λ (x : Cell). x.value) (cell_at (cells_of (walk_of fm t place id c r) (length c.bytes) fm.address_length c.address) i) v)
            (else_of (λ (x : Cell). x.mask) (cell_at (cells_of (walk_of fm t place id c r) (length c.bytes) fm.address_length c.address) i) m)
            (get_or (laid_line fm t ch place c r image) i 0)
        go (nowhere g e) = rw e (agrees-as v m (get_or image i 0) v m _ refl refl (laid-elsewhere image i g) a)
        go (here j e' p' l ee ep ei b e) =
            let w = step_all fm r.fragments (fresh fm.address_length c.bytes) in
            rw e
            (agrees-as (get_or w.work.values (fm.address_length + j) 0) (get_or w.work.masks (fm.address_length + j) 0) (get_or (laid_content fm t ch place c r) j 0) _ _ _
            (ap (λ (x : ℕ). get_or w.work.values x 0) ee) (ap (λ (x : ℕ). get_or w.work.masks x 0) ee) (laid-here image i j (omega arith) l (omega arith) u) (line.agrees j l))

-- ------------------------------------------------------------------ pair by pair

module _ (fm : Form) (t : Tables) (ch : Chosen) where
  -- the fragments of a pair that is placed
  pub placed-ready : (place id : ℕ) (c : Content) (r : Relocation) (s u : State) → fit_fragments fm r.fragments ≡ true → place_in fm t place c r s (some id) ≡ fine u
      → Ready fm (length c.bytes) r.fragments
  unfolding place_line place_at
  placed-ready place id c r s u h e =
      let k = chain (fold (in_line fm.address_length (length c.bytes) place) 0 r.fragments) _ u e in
      ready fm (length c.bytes) r.fragments place 0 k.value h k.first

  module _ (image : List ℕ) (i v m : ℕ) (l : i < length image) (a : Agrees v m (get_or image i 0)) where
    in-agrees : (place : ℕ) (c : Content) (r : Relocation) (o : Option ℕ) (s u : State) → fit_fragments fm r.fragments ≡ true → place_in fm t place c r s o ≡ fine u
        → Agrees (else_of (λ (x : Cell). x.value) (cell_at (cells_in fm t place c r o) i) v) (else_of (λ (x : Cell). x.mask) (cell_at (cells_in fm t place c r o) i) m)
        (get_or (laid_in fm t ch place c r image o) i 0)
    unfolding cell_at
    in-agrees place c r none s u h e = a
    in-agrees place c r (some id) s u h e = kept-agrees fm t ch place id c r (placed-ready place id c r s u h e) image i v m l a

    body-agrees : (place : ℕ) (b : Pair) (s u : State) → fit_by fm b ≡ true → place_body fm t place s b ≡ fine u
        → Agrees (else_of (λ (x : Cell). x.value) (cell_at (cells_by fm t place b) i) v) (else_of (λ (x : Cell). x.mask) (cell_at (cells_by fm t place b) i) m)
        (get_or (laid_by fm t ch place image b) i 0)
    unfolding cell_at
    body-agrees place skipped s u h e = a
    body-agrees place (placed c r) s u h e = in-agrees place c r (rank 0 t.areas r.area) s u h e

  in-length : (place : ℕ) (c : Content) (r : Relocation) (image : List ℕ) (o : Option ℕ) → length (laid_in fm t ch place c r image o) ≡ length image
  unfolding laid_line
  in-length place c r image none = refl
  in-length place c r image (some id) = length-sets image (offset t.areas r.area + c.address) (take (extent t.areas r.area - c.address) (laid_content fm t ch place c r))

  pub body-length : (place : ℕ) (image : List ℕ) (b : Pair) → length (laid_by fm t ch place image b) ≡ length image
  body-length place image skipped = refl
  body-length place image (placed c r) = in-length place c r image (rank 0 t.areas r.area)

  pub pairs-length : (ps : List (Taken Pair)) (image : List ℕ) → length (laid_pairs fm t ch ps image) ≡ length image
  unfolding laid_pairs
  pairs-length [] image = refl
  pairs-length (p ∷ ps) image = pairs-length ps (laid_by fm t ch p.place image p.body) ∙ body-length p.place image p.body

  pairs-agree : (ps : List (Taken Pair)) (s u : State) (image : List ℕ) → fit fm t ps ≡ true → fold (place_pair fm t) s ps ≡ fine u
      → length s.values ≡ length image → length s.masks ≡ length image
      → ((i : ℕ) → i < length image → Agrees (get_or s.values i 0) (get_or s.masks i 0) (get_or image i 0))
      → (i : ℕ) → i < length image → Agrees (get_or u.values i 0) (get_or u.masks i 0) (get_or (laid_pairs fm t ch ps image) i 0)
  unfolding fit fold laid_pairs place_pair writes
  pairs-agree [] s u image h e lv lm a i l =
      let same : s ≡ u = cc in
      agrees-as (get_or s.values i 0) (get_or s.masks i 0) (get_or image i 0) _ _ _
      (ap (λ (x : State). get_or x.values i 0) (sym same)) (ap (λ (x : State). get_or x.masks i 0) (sym same)) refl (a i l)
  pairs-agree (p ∷ ps) s u image h e lv lm a i l =
      let k = chain (place_pair fm t s p) (λ x. fold (place_pair fm t) x ps) u e in
      let o = placing-a-pair-overwrites fm t p s k.value k.first in
      let b = both_true (fit_by fm p.body) (misses_all fm t p ps && fit fm t ps) h in
      let d = both_true (misses_all fm t p ps) (fit fm t ps) b.1 in
      let n = body-length p.place image p.body in
      pairs-agree ps k.value u (laid_by fm t ch p.place image p.body) d.1 k.second (o.values_length ∙ (lv ∙ sym n)) (o.masks-length ∙ (lm ∙ sym n))
      (λ j q.
      agrees-as _ _ _ _ _ _ (o.values j (omega arith)) (o.masks j (omega arith)) refl
      (body-agrees image j (get_or s.values j 0) (get_or s.masks j 0) (omega arith) (a j (omega arith)) p.place p.body s k.value b.0 k.first))
      i (omega arith)

  pub laid-length : (ps : List (Taken Pair)) → length (laid_bytes fm t ch ps) ≡ total t.areas
  unfolding laid_bytes
  laid-length ps = pairs-length ps (replicate (total t.areas) 0) ∙ length-replicate {A = ℕ} (total t.areas) 0

  pub laid-agrees : (ps : List (Taken Pair)) (s : State) → fit fm t ps ≡ true → placing fm t ps ≡ fine s → (i : ℕ) → i < total t.areas
      → Agrees (get_or s.values i 0) (get_or s.masks i 0) (get_or (laid_bytes fm t ch ps) i 0)
  unfolding placing laid_bytes
  laid-agrees ps s h e i l =
      let n = total t.areas in
      let z : length (replicate {A = ℕ} n 0) ≡ n = length-replicate {A = ℕ} n 0 in
      pairs-agree ps _ s (replicate n 0) h e refl refl (λ j q. unknown (get_or-replicate n j 0 0 (omega arith))) i (omega arith)

-- A: every laid byte of an accepted module that is fit agrees with the pattern
pub laid-bytes-match-the-pattern : (ended : Bool) (b : Lent) (text : List ℕ) (w : Read) (ch : Chosen) → read ended b text ≡ fine w → fit_read w ≡ true
    → (i : ℕ) → i < total w.built.tables.areas → Agrees (get_or w.built.state.values i 0) (get_or w.built.state.masks i 0) (get_or (laid_read ch w) i 0)
unfolding fit_read laid_read
laid-bytes-match-the-pattern ended b text w ch e h i l =
    laid-agrees w.parsed.form w.built.tables ch w.parsed.records.pairs w.built.state h (what-was-read ended b text w e).builds.placed i l

-- the same bit by bit: wherever the mask has a one, byte and pattern have the same bit
agrees-bits : {v m l : ℕ} → Agrees v m l → (k : ℕ) → bit k m ≡ true → bit k l ≡ bit k v
unfolding bit
agrees-bits (known e f) k h = rw f
agrees-bits {m = m} (unknown e) k h =
    let z : eqb (0 / 2 ^ k % 2) 1 ≡ true = rw e at h in
    let y : eqb (0 % 2) 1 ≡ true = rw (zero-div (2 ^ k)) at z in
    absurd (false≢true y)

pub laid-bits-match-the-pattern : (ended : Bool) (b : Lent) (text : List ℕ) (w : Read) (ch : Chosen) → read ended b text ≡ fine w → fit_read w ≡ true
    → (i : ℕ) → i < total w.built.tables.areas → (k : ℕ) → bit k (get_or w.built.state.masks i 0) ≡ true
    → bit k (get_or (laid_read ch w) i 0) ≡ bit k (get_or w.built.state.values i 0)
laid-bits-match-the-pattern ended b text w ch e h i l k m = agrees-bits (laid-bytes-match-the-pattern ended b text w ch e h i l) k m

-- as many laid bytes as the images have positions
pub as-many-laid-bytes-as-positions : (w : Read) (ch : Chosen) → length (laid_read ch w) ≡ total w.built.tables.areas
unfolding laid_read
as-many-laid-bytes-as-positions w ch = laid-length w.parsed.form w.built.tables ch w.parsed.records.pairs

-- what is laid is the laid bytes of a module that was read and is fit
pub record LaidFrom (ended : Bool) (b : Lent) (ch : Chosen) (text : List ℕ) (bytes : List ℕ) : Type 0 where
  pub module-read : Read
  pub accepted : read ended b text ≡ fine module-read
  pub is-fit : fit_read module-read ≡ true
  pub bytes-are : laid_read ch module-read ≡ bytes

pub what-was-laid : (ended : Bool) (b : Lent) (ch : Chosen) (text bytes : List ℕ) → laid_of ended b ch text ≡ fine bytes → LaidFrom ended b ch text bytes
unfolding laid_of
what-was-laid ended b ch text bytes h =
    let k = chain (read ended b text) (λ w. pick (fit_read w) (fine (laid_read ch w)) (refused 25 0)) bytes h in
    let p = passed (fit_read k.value) (fine (laid_read ch k.value)) 25 0 bytes k.second in
    record { module-read = k.value; accepted = k.first; is-fit = p.0; bytes-are = cc p.1 }
