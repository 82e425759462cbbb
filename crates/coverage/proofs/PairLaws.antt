-- What the proofs of one pair share: a law for each return.
-- Assumes nothing.
use Prim.Native.Nat.{ℕ, suc, min, ◌+◌, ◌-◌, ◌*◌, ◌≤◌, ◌<◌}
use mathlib.Core.Path.{◌≡◌, refl, ap, sym, subst, ◌∙◌}
use mathlib.Core.Bool.{Bool, true, false, ◌&&◌}
use mathlib.Core.List.{List, []}
use mathlib.Core.Option.{Option, none, some}
use native.Mathlib.Numerals.{add-one}
use native.Mathlib.Omega.{arith}
use lib.Dec.{eqb, leb}
use lib.ListN.{length, get_or, take, drop}
use lib.Seq.{take-length}
use borrow.Author.Rules.{rules}
use borrow.Author.Tests.{eq-eqb, le-leb}
use Rattle.format.specs.Lists.{pick}
use Rattle.format.specs.Header.{Form}
use Rattle.format.specs.Outcome.{Outcome, fine, and_then, fold}
use Rattle.format.specs.Pairs.{Content, Fragment, Relocation, placed}
use Rattle.format.specs.Placing.{extent, walk_by}
use Rattle.format.specs.Tables.{Area, Tables, last_index, offset, rank, total}
use Rattle.format.specs.WorkLine.{in_line}
use Rattle.laws.specs.PairRows.{walk_of}
use Rattle.laws.specs.Rows.{areas_in, from}
use Rattle.order.specs.Writes.{Cell, cells_of, lay, writes}
use Rattle.order.proofs.Areas.{ends-inside, a-pair-of-no-kept-area-writes-nothing}
use Rattle.homes.specs.declared.Home.{Home}
use Rattle.homes.specs.Home.{home_at, home_by_of, no_home}
use Rattle.homes.proofs.Use.{by_rank}
use Rattle.sites.specs.declared.Line.{Line}
use Rattle.sites.specs.Site.{line_fits}
use Rattle.sites.specs.Columns.{fragments_in}
use Rattle.located.specs.Site.{image_fits, kept_fits}
use Rattle.work.specs.Work.{form_of, content_of}
use Rattle.one_cell.specs.Cell.{cell_fits, site_work}
use Rattle.record_rows.specs.RecordRows.{fragment_columns, pair_columns}
use Rattle.record_parts.specs.Parts.{fragment_from}
use Rattle.record_parts.specs.Columns.{line_from, Three}
use Rattle.record_parts.proofs.Fragments.{columns-hold, from-length}
use Rattle.mark_pair.specs.Marks.{mark_walk, marked_by, marked_in, or_before, PairMarks}
use Rattle.mark_pair.proofs.Use.{marks-are-cells}
use Rattle.one_position.specs.Answer.{Held}
use Rattle.one_position.specs.Pair.{Asked, Fair, Sound, Stands}
use Rattle.one_position.proofs.PairLaws.{fits-fair, line_by, line-by, the-area, the-bytes, the-fragments}
use Rattle.coverage.specs.Pair.{marks_from, MarksBy, RowMarks}

-- `by_rows`
module _ (l : Line) (h : Home) (bs fragments : List ℕ) (row : ℕ) (old : List ℕ) where
  marked-rows : (ms es xs : List ℕ) (radix : ℕ) → marked_by l h.start h.size bs ms es xs radix old ≡ marks_from l h bs (fragments_in ms es xs l.fragments) radix old
  unfolding marked_by marks_from site_work
  marked-rows ms es xs radix = refl

  unkept-old : (b : Bool) (ms es : List ℕ) → last_index h.id ≡ none → pick b (marked_in l h bs ms es [] 0 old (last_index h.id)) old ≡ old
  unkept-old true ms es u = rw u
  unkept-old false ms es u = refl

  pub rows-marked : {ms₀ es₀ xs₀ ms es xs : List ℕ} → length ms₀ ≡ 64 → length es₀ ≡ 64 → length xs₀ ≡ 64 → Three fragments row (min l.fragments 64) ms₀ es₀ xs₀ ms es xs
      → {new : List ℕ} → PairMarks l h bs ms es old new → MarksBy l h bs fragments row old new
  rows-marked {ms₀} {es₀} {xs₀} {ms} {es} {xs} lm le lx t a = record {
    kept = λ f k radix e.
        let t' : Three fragments (fragment_columns * k) (min l.fragments 64) ms₀ es₀ xs₀ ms es xs = rw e at t in
        let fs : fragments_in ms es xs l.fragments ≡ from (fragment_from fragments) k l.fragments = columns-hold fragments k l.fragments t' f.fragments lm le lx in
        a.says xs radix ∙ (rw (fits-fair l h bs fragments row 0 f, f.ranked) (ap (or_before old) (marked-rows ms es xs radix)) ∙ ap (λ (x : List Fragment). or_before old (marks_from l h bs x radix old)) fs);
    unkept = λ u. a.says [] 0 ∙ unkept-old (cell_fits l h bs) ms es u;
  }

pub ruleset by_rows = (rules, rows-marked)

-- ------------------------------------------------------------------ `mark_row`

-- what the pair marks are the cells that it writes
here-marked : (fm : Form) (t : Tables) (id place m : ℕ) (c : Content) (r : Relocation) (h : Home) (bs old : List ℕ) → rank 0 t.areas r.area ≡ some id
    → h ≡ home_by_of r.area (offset t.areas r.area) (extent t.areas r.area) (some id)
    → fold (in_line fm.address_length (length c.bytes) place) 0 r.fragments ≡ fine m → take (length c.bytes) bs ≡ c.bytes
    → or_before old (marks_from (line_by fm place c r) h bs r.fragments fm.radix old) ≡ lay (λ (x : Cell). 1) (writes fm t (record { place = place; end = 0; body = placed c r })) old
unfolding marks_from writes walk_of walk_by
here-marked fm t id place m c r h bs old k eh i e = rw (i, e, k, eh) (marks-are-cells (walk_of fm t place id c r) (fm.address_length + length c.bytes) 0 c.address old)

module _ (areas : List ℕ) (n : ℕ) (pairs content fragments : List ℕ) (p : ℕ) (big : Bool) (width : ℕ) (old : List ℕ) {line : Line} (el : line ≡ line_from pairs p big width)
    {first bytes end u v : ℕ} (eu : u ≡ get_or pairs (p + 3) 0) (eu' : first ≡ u) (ev : v ≡ get_or pairs (p + 4) 0) (ev' : bytes ≡ v) (ee : end ≡ first + bytes) where
  ef : first ≡ get_or pairs (p + 3) 0
  ef = eu' ∙ eu

  eb : bytes ≡ get_or pairs (p + 4) 0
  eb = ev' ∙ ev

  line-area : line.area ≡ get_or pairs (p + 2) 0
  unfolding line_from
  line-area = ap (λ (x : Line). x.area) el

  -- its bytes do not lie in the content
  pub row-misfit : length content < end → RowMarks areas n pairs content fragments p big width old old
  row-misfit g = record { marks = λ fm t place c r k s o. absurd (misplaced s) }
    where
      misplaced : {place : ℕ} {c : Content} {r : Relocation} → Stands pairs content fragments p place c r → ⊥
      misplaced s = omega (arith, s.inside, ef, eb)

  pub row-marked : n ≤ 64 → end ≤ length content → {k row w : ℕ} → w ≡ get_or pairs (p + 5) 0 → k ≡ w → row ≡ 3 * k → {h : Home} → h ≡ home_at areas n line.area
      → {new : List ℕ} → MarksBy line h (take (end - first) (drop first content)) fragments row old new → RowMarks areas n pairs content fragments p big width old new
  unfolding lay
  row-marked few g {k} {row} ew ek' er {h} eh {new} a = record { marks = λ fm t place c r d s o. go fm t place c r d s o (rank 0 t.areas r.area) refl }
    where
      bs : List ℕ
      bs = take (end - first) (drop first content)

      home-is : (fm : Form) (t : Tables) (place : ℕ) (c : Content) (r : Relocation) → Held fm t areas n big width → Stands pairs content fragments p place c r
          → h ≡ home_by_of r.area (offset t.areas r.area) (extent t.areas r.area) (rank 0 t.areas r.area)
      home-is fm t place c r d s =
          by_rank areas n line.area eh few
          ∙ (ap (λ (x : ℕ). home_by_of x (offset (areas_in areas n) x) (extent (areas_in areas n) x) (rank 0 (areas_in areas n) x)) (line-area ∙ the-area s)
          ∙ ap (λ (x : List Area). home_by_of r.area (offset x r.area) (extent x r.area) (rank 0 x r.area)) d.areas-are)

      go : (fm : Form) (t : Tables) (place : ℕ) (c : Content) (r : Relocation) → Held fm t areas n big width → Stands pairs content fragments p place c r → Sound fm t place c r
          → (o : Option ℕ) → rank 0 t.areas r.area ≡ o → new ≡ lay (λ (x : Cell). 1) (writes fm t (record { place = place; end = 0; body = placed c r })) old
      go fm t place c r d s o none e =
          let hn : h ≡ no_home r.area = home-is fm t place c r d s ∙ ap (home_by_of r.area (offset t.areas r.area) (extent t.areas r.area)) e in
          a.unkept (ap (λ (x : Home). last_index x.id) hn) ∙ rw (a-pair-of-no-kept-area-writes-nothing fm t place 0 c r e).0
      go fm t place c r d s o (some id) e =
          let hs : h ≡ home_by_of r.area (offset t.areas r.area) (extent t.areas r.area) (some id) = home-is fm t place c r d s ∙ ap (home_by_of r.area (offset t.areas r.area) (extent t.areas r.area)) e in
          let ek : k ≡ get_or pairs (p + 5) 0 = ek' ∙ ew in
          let many : end - first ≡ length c.bytes = omega (arith, s.counted, ef, eb) in
          let fs : from (fragment_from fragments) k (get_or pairs (p + 6) 0) ≡ r.fragments = rw ek (the-fragments s) in
          let less : get_or pairs (p + 6) 0 ≡ length r.fragments = sym (from-length (fragment_from fragments) k (get_or pairs (p + 6) 0)) ∙ ap length fs in
          let bytes-are : bs ≡ c.bytes = rw (many, ← s.counted, ef) (the-bytes s) in
          let line-is : line ≡ line_by fm place c r = el ∙ line-by fm place c r big width d.order d.address s less in
          let b : MarksBy (line_by fm place c r) h bs fragments row old new = subst (λ (y : Line). MarksBy y h bs fragments row old new) line-is a in
          let in-line = o.in-line id e in
          let f : Fair (line_by fm place c r) h bs = record {
            area = ap (λ (y : Home). y.area) hs;
            narrow = omega (arith, d.narrow, d.address);
            content = o.few_bytes;
            lent = omega (arith, ap length bytes-are);
            fragments = o.few-fragments;
            sizes = rw hs (omega (arith, ends-inside t.areas r.area, d.sizes));
            id = id;
            ranked = rw (hs, add-one);
          } in
          b.kept f k fm.radix er
          ∙ (ap (λ (y : List Fragment). or_before old (marks_from (line_by fm place c r) h bs y fm.radix old)) (ap (λ (y : ℕ). from (fragment_from fragments) k y) (sym less) ∙ fs)
          ∙ here-marked fm t id place in-line.many c r h bs old e hs in-line.is (ap (λ (y : List ℕ). take (length c.bytes) y) bytes-are ∙ take-length c.bytes))

pub ruleset rowing = (rules, row-misfit, row-marked)
