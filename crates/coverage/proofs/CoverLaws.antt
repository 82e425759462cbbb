-- What the proofs of the whole share: a law for each return.
-- Assumes nothing.
use Prim.Native.Nat.{ℕ, suc, ◌+◌, ◌≤◌, ◌<◌}
use mathlib.Core.Path.{◌≡◌, refl, ap, sym, subst, ◌∙◌}
use mathlib.Core.Bool.{Bool, true, false}
use mathlib.Core.List.{List, [], ◌∷◌}
use mathlib.Core.Option.{some}
use native.Mathlib.Omega.{arith}
use mir.Val.{Fits}
use mir.Syntax.{w64}
use lib.Dec.{leb}
use lib.ListN.{length, drop, length-drop}
use borrow.Author.Rules.{rules}
use borrow.Author.Tests.{le-leb, lt-leb}
use Rattle.format.specs.Header.{Form, header}
use Rattle.format.specs.Lines.{end_length}
use Rattle.format.specs.Lists.{over, pick}
use Rattle.format.specs.Outcome.{Outcome, fine, refused, and_then}
use Rattle.format.specs.Pairs.{Pair, placed, skipped}
use Rattle.format.specs.Records.{Records, Taken}
use Rattle.format.specs.Reading.{Read, read}
use Rattle.format.specs.Tables.{Tables, tables, total}
use Rattle.laws.specs.Places.{records_at}
use Rattle.header.specs.Told.{form_of, more_of, told_head}
use Rattle.header.specs.declared.Form as text
use Rattle.header.specs.declared.Head as code
use Rattle.header.specs.declared.Head.TheVariants.{Found, Missing}
use Rattle.tables.specs.declared.group.Found as one
use Rattle.tables.specs.declared.group.Listed.{Listed}
use Rattle.tables.specs.declared.group.Listed.TheVariants.{Done, Refused, TooLong}
use Rattle.kept_sizes.specs.declared.Sizes.{Sizes}
use Rattle.tables.specs.GroupOne.{Grouped}
use Rattle.tables.specs.GroupOne as group
use Rattle.kept_sizes.specs.Sizes.{SizesAre, few}
use Rattle.kept_sizes.proofs.KeptSizes.{sizes-all}
use Rattle.tables.proofs.TableRows.{areas-held}
use Rattle.laws.specs.Rows.{areas_in}
use Rattle.order.specs.Writes.{Cell, lay, writes}
use Rattle.order.proofs.Areas.{a-skipped-pair-writes-nothing}
use Rattle.record_rows.specs.ReadPairs as paper
use Rattle.record_rows.specs.ReadPairs.{roomy}
use Rattle.pairs_answer.specs.Told.{held}
use Rattle.pairs_answer.specs.Told as rows
use Rattle.admission.specs.Admits.{IsRead}
use Rattle.std.specs.Prelude.{Ok, Err}
use Rattle.answer.specs.declared.Refusal as answers
use Rattle.pairs_answer.specs.Told.{PairsAnswer}
use Rattle.record_parts.specs.Parts.{placed_in, placed_of}
use Rattle.covered.specs.Covered.{CoverMeets, covered_by, map_after, map_in, map_of, marked_by, unwritten_in}
use Rattle.covered.specs.Covered as def
use Rattle.covered.proofs.Maps.{map-length}
use Rattle.one_position.specs.Answer.{Held}
use Rattle.one_position.specs.Back.{RowsAre}
use Rattle.one_position.specs.Explain.{Rowed}
use Rattle.one_position.proofs.ExplainLaws.{was, short, roomy-areas, narrow, opening, rows_few, rows-of, rows_behind, records-are, form-is, says-it, zeros}
pub use Rattle.one_position.proofs.ExplainLaws.{widths}
use Rattle.one_position.proofs.RecordLaws.{records-read, rowed-as}
use Rattle.coverage.specs.declared.Covered.{Covered}
use Rattle.coverage.specs.declared.Covered.TheVariants as say
use Rattle.coverage.specs.Rows.{RowsCover}
use Rattle.coverage.specs.Cover.{told, MapTold, AreasCover, TablesCover}

-- `by_areas`
module _ (areas : List ℕ) (n : ℕ) (pairs content fragments : List ℕ) (many : ℕ) (big : Bool) (width : ℕ) (old : List ℕ) (m : n ≤ 64) {z : Sizes} (a : SizesAre areas (few n) z) where
  positions-are : (fm : Form) (t : Tables) → Held fm t areas n big width → z.total ≡ total t.areas
  positions-are fm t h = (sizes-all a m).total-is ∙ ap total h.areas-are

  pub areas-many : 65536 < z.total → AreasCover areas n pairs content fragments many big width old (say.Refused 9 0) old
  areas-many l = record { tells = λ fm t qs h r. let y : ⊥ = omega (arith, positions-are fm t h, h.sizes) in absurd y }

  pub areas-covered : {u : ℕ} {new : List ℕ} → RowsCover areas n z.total pairs content fragments many big width old u new → AreasCover areas n pairs content fragments many big width old (say.Told z.total u) new
  areas-covered {u} {new} c = record {
    tells = λ fm t qs h r.
        let p = positions-are fm t h in
        let q : z.total ≡ length (map_of fm t qs) = p ∙ sym (map-length fm t qs) in
        let v : u ≡ unwritten_in (map_of fm t qs) = c.counts fm t qs h r p in
        record { says = ap (λ (x : def.Covered). fine x) (λ i. record { positions = q i; unwritten = v i }); held = c.map fm t qs h r p };
  }

pub areas-room : {x y : ℕ} → 65536 ≤ y → x ≤ 65536 → x ≤ y
areas-room h l = omega arith

pub ruleset by-areas = (rules, areas-many, areas-covered, areas-room)

-- `by_tables`
module _ (s : List ℕ) (at : ℕ) (f : text.Form) (xs₀ ys₀ xs ys ps bs fs : List ℕ) (many : ℕ) (old : List ℕ) {q : Listed} (g : Grouped true (form_of f) s at at xs₀ ys₀ xs ys q) where
  pub tables-refused : {n p : ℕ} → q ≡ Refused n p → TablesCover s at (form_of f) ps bs fs many old (say.Refused n p) old
  unfolding Grouped
  tables-refused {n} {p} e = record {
    tells = λ w r k t o. let g' : group.Refuses true (form_of f) s at xs₀ ys₀ xs ys n p = rw e at g in unlikely (sym g'.says ∙ t);
  }
    where
      unlikely : {C : Type 0} {t : Tables} → refused n p ≡ fine t → C
      unlikely h = let z : ◌≡◌ {A = ℕ} 0 1 = cc in let y : ⊥ = omega arith in absurd y

  pub tables-long : q ≡ TooLong → TablesCover s at (form_of f) ps bs fs many old (say.Refused 2 0) old
  unfolding Grouped
  tables-long e = record { tells = λ w r k t o. let g' = rw e at g in let y : ⊥ = omega (arith, short s w r, g'.0) in absurd y }

  module _ (lx : length xs₀ ≡ 448) (ly : length ys₀ ≡ 5120) {d : one.Found} (e : q ≡ Done d) where
    got : group.Read true (form_of f) s at at xs₀ ys₀ xs ys d
    unfolding Grouped
    got = rw e at g

    pub tables-few : d.areas ≤ 64
    tables-few = got.areas-low

    pub tables-told : {b : ℕ} → b ≡ suc (more_of f.width) → {r : Covered} {new : List ℕ} → AreasCover xs d.areas ps bs fs many f.big b old r new
        → TablesCover s at (form_of f) ps bs fs many old r new
    tables-told {b} eb a = record {
      tells = λ w x k t o.
          let same : got.sofar ≡ w.built.tables = (let h : fine got.sofar ≡ fine w.built.tables = sym got.entries ∙ t in cc) in
          let areas-are = areas-held got.held (omega (arith, lx, got.areas-low)) (omega (arith, ly, got.symbols-low)) in
          a.tells (form_of f) w.built.tables (placed_of w.parsed.records.pairs) (record {
            areas-are = areas-are ∙ ap (λ (u : Tables). u.areas) same;
            order = refl;
            address = eb;
            narrow = omega (arith, narrow f.width);
            sizes = roomy-areas s w x;
          }) o;
    }

pub ruleset by-tables = (rules, tables-refused, tables-long, tables-few, tables-told)

-- ------------------------------------------------------------------ `by_rows`

-- pairs that have no row do not matter, nor does where a record ends
same-marks : (fm : Form) (t : Tables) (ps : List (Taken Pair)) (map : List ℕ) → marked_by fm t (placed_of ps) map ≡ marked_by fm t ps map
unfolding placed_of marked_by writes lay
same-marks fm t [] map = refl
same-marks fm t (p ∷ ps) map = go p.place p.end p.body (λ xs. same-marks fm t ps xs)
  where
    go : (place end : ℕ) (x : Pair) → ((xs : List ℕ) → marked_by fm t (placed_of ps) xs ≡ marked_by fm t ps xs)
        → marked_by fm t (placed_in place x (placed_of ps)) map ≡ marked_by fm t ps (lay (λ (c : Cell). 1) (writes fm t (record { place = place; end = end; body = x })) map)
    go place end skipped ih = ih map
    go place end (placed c r) ih = ih _

same_map : (fm : Form) (t : Tables) (ps : List (Taken Pair)) → map_of fm t (placed_of ps) ≡ map_of fm t ps
unfolding map_of
same_map fm t ps = same-marks fm t ps _

module _ (s ps bs fs : List ℕ) (many : ℕ) (old : List ℕ) (v : IsRead s) (o : Rowed s ps bs fs many) (l : 65536 ≤ length old) where
  pub covers-few : many ≤ 4096
  covers-few = rows_few s ps bs fs many 0 0 v o

  -- the definition of a text that is read
  its_map : map_in (length old) s ≡ fine (map_of v.as_read.parsed.form v.as_read.built.tables v.as_read.parsed.records.pairs)
  unfolding map_in
  its_map = rw (le-leb 65536 (length old) l, v.is)

  module _ {h : code.Head} (e : told_head h ≡ header s) where
    pub covers-headless : h ≡ Missing → CoverMeets s old (told (say.Refused 4 0)) old
    covers-headless g =
        absurd (let x = opening s ps bs fs many 0 0 v o in let m : told_head Missing ≡ some x.h = ap told_head (sym g) ∙ (e ∙ x.is-head) in let z : ◌≡◌ {A = ℕ} 0 1 = cc in omega arith)

    module _ {f : text.Form} {n : ℕ} (g : h ≡ Found f n) {k : ℕ} (i : k ≡ end_length (drop n s)) where
      pub covers-behind : Fits w64 (n + k)
      covers-behind = rows_behind s ps bs fs many 0 0 v o e g i

      pub covers-told : {r : Covered} {new : List ℕ} → TablesCover s (n + k) (form_of f) ps bs fs many old r new → CoverMeets s old (told r) new
      covers-told {r} {new} a =
          let its = v.as_read in
          let its-pairs = v.as_read.parsed.records.pairs in
          let form = form-is s ps bs fs many 0 0 v o e g i in
          let entered : tables (records_at true (form_of f) s (n + k)).entries ≡ fine its.built.tables =
          ap (λ (x : Records). tables x.entries) (records-are s ps bs fs many 0 0 v o e g i) ∙ (was s v.as_read v.is).builds.entered in
          let rows : RowsAre (form_of f) its.built.tables ps bs fs many (placed_of its-pairs) =
          subst (λ (x : Form). RowsAre x its.built.tables ps bs fs many (placed_of its-pairs)) (sym form) (rows-of s ps bs fs many 0 0 v o) in
          let m = a.tells v.as_read v.is form entered rows in
          let same : map_of (form_of f) its.built.tables (placed_of its-pairs) ≡ map_of its.parsed.form its.built.tables its-pairs =
          same_map (form_of f) its.built.tables its-pairs ∙ ap (λ (x : Form). map_of x its.built.tables its-pairs) form in
          record {
            says = m.says ∙ (ap (λ (x : List ℕ). covered_by (fine x)) same ∙ ap covered_by (sym its_map));
            held = m.held ∙ (ap (λ (x : List ℕ). over x old) same ∙ ap (λ (x : Outcome (List ℕ)). map_after x old) (sym its_map));
          }

pub ruleset by_rows = (rules, covers-few, covers-headless, covers-behind, covers-told, zeros)

-- ------------------------------------------------------------------ `by_records`

module _ (s ps₀ bs₀ fs₀ old : List ℕ) (lp : length ps₀ ≡ 28672) (lb : length bs₀ ≡ 32768) (lf : length fs₀ ≡ 24576) (l : 65536 ≤ length old)
    (q : PairsAnswer) {ps bs fs : List ℕ} (m : paper.PairsMeet s (held ps₀ bs₀ fs₀) (rows.told q) (held ps bs fs)) where
  refuses-at : {n p : ℕ} → q ≡ (Err (record { number = n; place = p })) → CoverMeets s old (told (say.Refused n p)) old
  unfolding map_in
  refuses-at {n} {p} e =
      let g : map_in (length old) s ≡ refused n p = rw (le-leb 65536 (length old) l) (go (read true roomy s) (rw e at (says-it s ps₀ bs₀ fs₀ 0 0 lp lb lf q m))) in
      record { says = ap covered_by (sym g); held = ap (λ (x : Outcome (List ℕ)). map_after x old) (sym g) }
    where
      go : (o : Outcome Read) → paper.refusal n p ≡ (paper.pairs_from o).answer → and_then o (λ w. fine (map_of w.parsed.form w.built.tables w.parsed.records.pairs)) ≡ refused n p
      go (refused a b) h = let x : n ≡ a = cc in let y : p ≡ b = cc in rw (x, y)
      go (fine w) h = let z : ◌≡◌ {A = ℕ} 0 1 = cc in let y : ⊥ = omega arith in absurd y

  pub covers-refused : {z : answers.Refusal} → q ≡ Err z → CoverMeets s old (told (say.Refused z.number z.place)) old
  covers-refused {z} e = refuses-at {n = z.number} {p = z.place} e

pub ruleset by-records = (rules, covers-refused, records-read, rowed-as)

-- ------------------------------------------------------------------ `cover`

pub cover-short : (s old : List ℕ) → length old < 65536 → CoverMeets s old (told (say.Refused 1 0)) old
unfolding map_in
cover-short s old l = record { says = rw (lt-leb 65536 (length old) l); held = rw (lt-leb 65536 (length old) l) }

pub ruleset whole = (rules, zeros, cover-short)
