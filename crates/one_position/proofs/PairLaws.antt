-- What the proofs of a pair out of rows share: a law for each return.
-- Assumes nothing.
use Prim.Native.Nat.{ℕ, min, ◌+◌, ◌-◌, ◌*◌, ◌≤◌, ◌<◌}
use mathlib.Core.Path.{◌≡◌, refl, ap, sym, subst, ◌∙◌}
use mathlib.Core.Bool.{Bool, true, false, ◌&&◌, false≢true}
use mathlib.Core.List.{List, []}
use mathlib.Core.Option.{Option, none, some}
use native.Mathlib.Numerals.{add-one}
use native.Mathlib.Omega.{arith}
use lib.Dec.{eqb}
use lib.ListN.{length, get_or, take, drop}
use lib.Seq.{take-length}
use borrow.Author.Rules.{rules}
use borrow.Author.Tests.{eq-eqb, le-leb}
use Rattle.format.specs.Lists.{pick}
use Rattle.format.specs.Header.{Form}
use Rattle.format.specs.Outcome.{Outcome, fine, and_then, fold}
use Rattle.format.specs.Pairs.{Content, Fragment, Pair, Relocation, placed, skipped}
use Rattle.format.specs.Placing.{extent, walk_by}
use Rattle.format.specs.Records.{Taken}
use Rattle.format.specs.Tables.{Tables, last_index, offset, rank, total}
use Rattle.format.specs.WorkLine.{fresh, in_line, step_all}
use Rattle.laws.specs.PairRows.{walk_of}
use Rattle.laws.specs.Rows.{from}
use Rattle.order.specs.Writes.{Cell, cell_at, cells_of, writes, written, wrote}
use Rattle.order.proofs.Areas.{Inside, ends-inside, a-pair-writes-inside-its-area, never_both}
use Rattle.homes.specs.declared.Home.{Home}
use Rattle.homes.specs.Home.{home_by_of}
use Rattle.sites.specs.declared.Line.{Line}
use Rattle.sites.specs.Site.{line_fits}
use Rattle.sites.specs.Columns.{fragments_in}
use Rattle.located.specs.Site.{image_fits, kept_fits}
use Rattle.work.specs.Work.{form_of, content_of}
use Rattle.one_cell.specs.Cell.{Left, left_at, left_by, left_in, site_work, told, cell_fits, CellIs}
use Rattle.one_cell.specs.declared.Cell as code
use Rattle.one_cell.specs.declared.Cell.TheVariants.{Nothing, Misfit}
use Rattle.record_rows.specs.RecordRows.{fragment_columns, pair_columns}
use Rattle.record_parts.specs.Parts.{fragment_from, pair_from}
use Rattle.record_parts.specs.Columns.{line_from, Three}
use Rattle.record_parts.proofs.Fragments.{columns-hold, from-length}
use Rattle.one_position.specs.Pair.{left_of, left_from, Asked, Fair, LeftBy, Sound, Stands, Tells}
use Rattle.one_position.proofs.Cells.{left-is-a-cell}

-- `by_rows`
module _ (l : Line) (h : Home) (bs fragments : List ℕ) (row want : ℕ) where
  pub fits-fair : Fair l h bs → cell_fits l h bs ≡ true
  unfolding cell_fits line_fits image_fits
  fits-fair f =
      rw (
        eq-eqb h.area l.area f.area,
        le-leb l.width 4 f.narrow,
        le-leb l.bytes 256 f.content,
        le-leb l.bytes (length bs) f.lent,
        le-leb l.fragments 64 f.fragments,
        f.ranked,
        le-leb (h.start + h.size) 65536 f.sizes,
      )

  left-rows : (ms es xs : List ℕ) (radix : ℕ) → left_by l h.size bs ms es xs radix want ≡ left_from l h.size bs (fragments_in ms es xs l.fragments) radix want
  unfolding left_by left_from site_work
  left-rows ms es xs radix = refl

  pub rows_left : {ms₀ es₀ xs₀ ms es xs : List ℕ} → length ms₀ ≡ 64 → length es₀ ≡ 64 → length xs₀ ≡ 64 → Three fragments row (min l.fragments 64) ms₀ es₀ xs₀ ms es xs
      → {r : code.Cell} → CellIs l h bs ms es want r → LeftBy l h bs fragments row want r
  rows_left {ms₀} {es₀} {xs₀} {ms} {es} {xs} lm le lx t a = record {
    says = λ f k radix e.
        let t' : Three fragments (fragment_columns * k) (min l.fragments 64) ms₀ es₀ xs₀ ms es xs = rw e at t in
        let fs : fragments_in ms es xs l.fragments ≡ from (fragment_from fragments) k l.fragments = columns-hold fragments k l.fragments t' f.fragments lm le lx in
        a.says xs radix ∙ (rw (fits-fair f, f.ranked) (ap some (left-rows ms es xs radix)) ∙ ap (λ (x : List Fragment). some (left_from l h.size bs x radix want)) fs);
  }

pub ruleset by_rows = (rules, rows_left)

-- ------------------------------------------------------------------ `pair_tells`

-- a pair's body, taken apart
abbrev pub content_of_body : Pair → Content
content_of_body skipped = record { address = 0; bytes = [] }
content_of_body (placed c r) = c

abbrev pub relocation_of_body : Pair → Relocation
relocation_of_body skipped = record { area = 0; fragments = [] }
relocation_of_body (placed c r) = r

module _ {pairs content fragments : List ℕ} {p place : ℕ} {c : Content} {r : Relocation} (s : Stands pairs content fragments p place c r) where
  pub the-place : get_or pairs p 0 ≡ place
  unfolding pair_from
  the-place = rw s.row (ap (λ (q : Taken Pair). q.place) s.pair)

  pub the-address : get_or pairs (p + 1) 0 ≡ c.address
  unfolding pair_from
  the-address = rw s.row (ap (λ (q : Taken Pair). (content_of_body q.body).address) s.pair)

  pub the-area : get_or pairs (p + 2) 0 ≡ r.area
  unfolding pair_from
  the-area = rw s.row (ap (λ (q : Taken Pair). (relocation_of_body q.body).area) s.pair)

  pub the-bytes : take (get_or pairs (p + 4) 0) (drop (get_or pairs (p + 3) 0) content) ≡ c.bytes
  unfolding pair_from
  the-bytes = rw s.row (ap (λ (q : Taken Pair). (content_of_body q.body).bytes) s.pair)

  pub the-fragments : from (fragment_from fragments) (get_or pairs (p + 5) 0) (get_or pairs (p + 6) 0) ≡ r.fragments
  unfolding pair_from
  the-fragments = rw s.row (ap (λ (q : Taken Pair). (relocation_of_body q.body).fragments) s.pair)

-- a pair of another area leaves nothing
nothing-there : (fm : Form) (t : Tables) (a place : ℕ) (c : Content) (r : Relocation) (want : ℕ) → (r.area ≡ a → ⊥) → want < extent t.areas a
    → left_of (cell_at (writes fm t (record { place = place; end = 0; body = placed c r })) (offset t.areas a + want)) ≡ none
unfolding wrote
nothing-there fm t a place c r want other l = go (cell_at (writes fm t (record { place = place; end = 0; body = placed c r })) (offset t.areas a + want)) refl
  where
    go : (o : Option Cell) → cell_at (writes fm t (record { place = place; end = 0; body = placed c r })) (offset t.areas a + want) ≡ o → left_of o ≡ none
    go none e = refl
    go (some x) e =
        absurd (never_both t.areas r.area a (offset t.areas a + want) other (a-pair-writes-inside-its-area fm t place 0 c r (offset t.areas a + want) (rw e)) (omega arith, omega arith))

-- the numbers of a pair of the area, by the pair itself
abbrev pub line_by : Form → ℕ → Content → Relocation → Line
line_by fm place c r =
    record { big = fm.big; width = fm.address_length; place = place; address = c.address; bytes = length c.bytes; fragments = length r.fragments; area = r.area }

-- what it leaves is the cell that it writes
here-is : (fm : Form) (t : Tables) (id place m : ℕ) (c : Content) (r : Relocation) (bs : List ℕ) (want : ℕ) → rank 0 t.areas r.area ≡ some id
    → fold (in_line fm.address_length (length c.bytes) place) 0 r.fragments ≡ fine m → take (length c.bytes) bs ≡ c.bytes
    → left_from (line_by fm place c r) (extent t.areas r.area) bs r.fragments fm.radix want
    ≡ fine (left_of (cell_at (writes fm t (record { place = place; end = 0; body = placed c r })) (offset t.areas r.area + want)))
unfolding left_from writes walk_of walk_by
here-is fm t id place m c r bs want k i e =
    rw (i, e, k) (ap (λ (o : Option Left). fine o) (left-is-a-cell (walk_of fm t place id c r) (fm.address_length + length c.bytes) 0 c.address want))

-- the numbers of a row are the pair's
pub line-by : {pairs content fragments : List ℕ} {p : ℕ} (fm : Form) (place : ℕ) (c : Content) (r : Relocation) (big : Bool) (width : ℕ) → big ≡ fm.big → width ≡ fm.address_length
    → Stands pairs content fragments p place c r → get_or pairs (p + 6) 0 ≡ length r.fragments → line_from pairs p big width ≡ line_by fm place c r
unfolding line_from
line-by fm place c r big width b w s f =
    λ j. record { big = b j; width = w j; place = the-place s j; address = the-address s j; bytes = s.counted j; fragments = f j; area = the-area s j }

module _ (pairs content fragments : List ℕ) (p : ℕ) (big : Bool) (width : ℕ) (h : Home) (want : ℕ) {line : Line} (el : line ≡ line_from pairs p big width) where
  line-area : line.area ≡ get_or pairs (p + 2) 0
  unfolding line_from
  line-area = ap (λ (x : Line). x.area) el

  -- a pair of another area
  pub tells-elsewhere : (line.area ≡ h.area → ⊥) → Tells pairs content fragments p big width h want Nothing
  tells-elsewhere n = record {
    tells = λ fm t a place c r q s o l.
        let other : r.area ≡ a → ⊥ = λ e. n (line-area ∙ (the-area s ∙ (e ∙ sym (ap (λ (x : Home). x.area) q.home)))) in
        ap (λ (x : Option Left). some (fine x)) (sym (nothing-there fm t a place c r want other l));
  }

  module _ (same : line.area ≡ h.area) {first bytes end u v : ℕ} (eu : u ≡ get_or pairs (p + 3) 0) (eu' : first ≡ u) (ev : v ≡ get_or pairs (p + 4) 0) (ev' : bytes ≡ v) (ee : end ≡ first + bytes) where
    ef : first ≡ get_or pairs (p + 3) 0
    ef = eu' ∙ eu

    eb : bytes ≡ get_or pairs (p + 4) 0
    eb = ev' ∙ ev

    -- its bytes do not lie in the content
    pub tells-misfit : length content < end → Tells pairs content fragments p big width h want Misfit
    tells-misfit n = record { tells = λ fm t a place c r q s o l. absurd (misplaced s) }
      where
        misplaced : {place : ℕ} {c : Content} {r : Relocation} → Stands pairs content fragments p place c r → ⊥
        misplaced s = omega (arith, s.inside, ef, eb)

    -- a pair of the area
    pub tells-here : end ≤ length content → {k row w : ℕ} → w ≡ get_or pairs (p + 5) 0 → k ≡ w → row ≡ 3 * k → {x : code.Cell} → LeftBy line h (take (end - first) (drop first content)) fragments row want x
        → Tells pairs content fragments p big width h want x
    tells-here n {k} {row} ew ek' er {x} a = record {
      tells = λ fm t i place c r q s o l.
          let ek : k ≡ get_or pairs (p + 5) 0 = ek' ∙ ew in
          let bs : List ℕ = take (end - first) (drop first content) in
          let many : end - first ≡ length c.bytes = omega (arith, s.counted, ef, eb) in
          let fs : from (fragment_from fragments) k (get_or pairs (p + 6) 0) ≡ r.fragments = rw ek (the-fragments s) in
          let few : get_or pairs (p + 6) 0 ≡ length r.fragments = sym (from-length (fragment_from fragments) k (get_or pairs (p + 6) 0)) ∙ ap length fs in
          let bytes-are : bs ≡ c.bytes = rw (many, ← s.counted, ef) (the-bytes s) in
          let line-is : line ≡ line_by fm place c r = el ∙ line-by fm place c r big width q.order q.address s few in
          let area-is : r.area ≡ i = sym (the-area s) ∙ (sym line-area ∙ (same ∙ ap (λ (y : Home). y.area) q.home)) in
          let b : LeftBy (line_by fm place c r) h bs fragments row want x = subst (λ (y : Line). LeftBy y h bs fragments row want x) line-is a in
          let ranked : rank 0 t.areas r.area ≡ some q.id = ap (λ (y : ℕ). rank 0 t.areas y) area-is ∙ q.ranked in
          let in-line = o.in-line q.id ranked in
          let f : Fair (line_by fm place c r) h bs = fair fm t i place c r q o area-is bs bytes-are in
          b.says f k fm.radix er
          ∙ (ap (λ (y : List Fragment). some (left_from (line_by fm place c r) h.size bs y fm.radix want)) (ap (λ (y : ℕ). from (fragment_from fragments) k y) (sym few) ∙ fs)
          ∙ (ap (λ (y : ℕ). some (left_from (line_by fm place c r) y bs r.fragments fm.radix want)) (ap (λ (y : Home). y.size) q.home ∙ ap (λ (y : ℕ). extent t.areas y) (sym area-is))
          ∙ (ap some (here-is fm t q.id place in-line.many c r bs want ranked in-line.is (ap (λ (y : List ℕ). take (length c.bytes) y) bytes-are ∙ take-length c.bytes))
          ∙ ap (λ (y : ℕ). some (fine (left_of (cell_at (writes fm t (record { place = place; end = 0; body = placed c r })) (offset t.areas y + want))))) area-is)));
    }
      where
        fair : (fm : Form) (t : Tables) (i place : ℕ) (c : Content) (r : Relocation) → Asked fm t i big width h → Sound fm t place c r → r.area ≡ i → (bs : List ℕ) → bs ≡ c.bytes
            → Fair (line_by fm place c r) h bs
        fair fm t i place c r q o e bs d = record {
          area = ap (λ (y : Home). y.area) q.home ∙ sym e;
          narrow = omega (arith, q.narrow, q.address);
          content = o.few_bytes;
          lent = omega (arith, ap length d);
          fragments = o.few-fragments;
          sizes = rw q.home (omega (arith, ends-inside t.areas i, q.sizes));
          id = q.id;
          ranked = rw (q.home, add-one);
        }

pub ruleset telling = (rules, tells-elsewhere, tells-misfit, tells-here)
