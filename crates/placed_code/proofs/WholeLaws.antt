-- What the proofs of the whole share: a law for each return.
-- Assumes nothing.
use Prim.Native.Nat.{ℕ, zero, suc, min, ◌+◌, ◌*◌, ◌≤◌, ◌<◌}
use mathlib.Core.Path.{◌≡◌, refl, ap, sym, subst, ◌∙◌}
use mathlib.Core.Bool.{Bool, true, false, ◌&&◌}
use mathlib.Core.List.{List, [], ◌++◌}
use native.Mathlib.Omega.{arith}
use lib.Dec.{leb}
use lib.ListN.{length, drop, replicate, length-replicate}
use lib.Seq.{sets, sets-eq}
use borrow.Author.Rules.{rules}
use borrow.Author.Tests.{le-leb, lt-leb}
use Rattle.format.specs.Header.{Form}
use Rattle.format.specs.Lists.{over, pick}
use Rattle.format.specs.Outcome.{Outcome, fine, refused, and_then}
use Rattle.format.specs.Pairs.{Pair}
use Rattle.format.specs.Records.{Taken}
use Rattle.format.specs.Reading.{Read, read}
use Rattle.format.specs.Tables.{Area, Symbol, Tables, counted, kept_count, total}
use Rattle.format.specs.Placing.{placing}
use Rattle.laws.specs.Rows.{areas_in, from, symbol_at, symbols_in, tables_in}
use Rattle.laws.proofs.WasRead.{WasRead}
use Rattle.sites.specs.declared.Filled.{Filled}
use Rattle.sites.specs.Site.{tables_for}
use Rattle.sites.specs.Site as sites
use Rattle.kept_sizes.specs.Sizes as sizes
use Rattle.record_rows.specs.ReadPairs as paper
use Rattle.record_rows.specs.ReadPairs.{roomy}
use Rattle.record_rows.specs.RecordRows.{content_bytes, fragment_rows, pair_count, pair_rows}
use Rattle.record_rows.proofs.Roomy.{few-records}
use Rattle.pairs_answer.specs.Told.{held}
use Rattle.pairs_answer.specs.Told as rows
use Rattle.std.specs.Prelude.{Ok, Err}
use Rattle.answer.specs.declared.Refusal as answers
use Rattle.pairs_answer.specs.Told.{PairsAnswer}
use Rattle.pair_rows.specs.declared.PairCounts.{PairCounts}
use Rattle.record_parts.specs.Parts.{placed_of}
use Rattle.record_parts.proofs.Decoded.{Standing}
use Rattle.record_parts.proofs.Fragments.{from-length}
use Rattle.one_position.specs.Back.{RowsAre}
use Rattle.one_position.specs.Explain.{Holds, Rowed}
use Rattle.one_position.proofs.Rows.{all_sound, rows_are}
use Rattle.one_position.proofs.RecordLaws.{records-read, roomy-says, rowed-as}
use Rattle.laid.specs.Fit.{fit, fit_read, laid_read}
use Rattle.laid.specs.Laid.{Chosen, laid_bytes, laid_pairs}
use Rattle.laid.specs.Outside.{by_index}
use Rattle.laid.proofs.Outside.{the-place-tells-the-index}
use Rattle.laid.proofs.Pattern.{as-many-laid-bytes-as-positions}
use Rattle.fit_rows.specs.Fits.{fits_rows}
use Rattle.laid_rows.specs.Over.{around, rows_over}
use Rattle.laid_by_rows.proofs.Placed.{placed-fit, placed-laid}
use Rattle.laid_by_rows.proofs.Conditions.{rows_fit, fit-bodies}
use Rattle.laid_by_rows.proofs.Fields.{Told}
use Rattle.laid_by_rows.proofs.Lines.{rows-laid}
use Rattle.placed_rows.specs.declared.Placed.{Placed}
use Rattle.placed_rows.specs.declared.Placed.TheVariants.{Refusal}
use Rattle.placed_rows.specs.Placed.{told, enough, answer_by, RowsPlaced}
use Rattle.placed_code.specs.declared.found.Tabled.{Tabled}
use Rattle.placed_code.specs.Code.{addressed, code_in, code_of, count_of, held_after, CodeIs, ReadPlaced, HeldBy, TablesHeld}
use Rattle.placed_code.proofs.FoundLaws.{was, roomy-areas}

-- ------------------------------------------------------------------ a module, and the rows that hold it

module _ (s : List ℕ) (w : Read) (e : read true roomy s ≡ fine w) (ps bs fs : List ℕ) (many : ℕ) (o : Rowed s ps bs fs many) where
  abbrev fm : Form
  fm = w.parsed.form

  abbrev t : Tables
  t = w.built.tables

  abbrev qs : List (Taken Pair)
  qs = placed_of w.parsed.records.pairs

  few-pairs : many ≤ 4096
  few-pairs = omega (arith, (o.holds w e).counted, (few-records roomy s w e).pairs)

  standing : Standing w.parsed.records.pairs 0 0 0 ps bs fs
  unfolding over
  standing = let k = o.holds w e in record {
    pairs-before = [];
    pairs-behind = drop (length (pair_rows 0 0 w.parsed.records.pairs)) o.old-pairs;
    content-before = [];
    content-behind = drop (length (content_bytes w.parsed.records.pairs)) o.old-content;
    fragments-before = [];
    fragments-behind = drop (length (fragment_rows w.parsed.records.pairs)) o.old-fragments;
    pairs = k.pairs-are;
    content = k.content-is;
    fragments = k.fragments-are;
    pairs-at = refl;
    content-at = refl;
    fragments-at = refl;
  }

  rows-of : RowsAre fm t ps bs fs many qs
  unfolding counted placing
  rows-of =
      let b = (was s w e).builds in
      subst (λ (n : ℕ). RowsAre fm t ps bs fs n qs) (sym (o.holds w e).counted)
      (rows_are fm t w.parsed.records.pairs ps bs fs standing (all_sound fm t w.parsed.records.pairs 0 w.built.lines _ w.built.state b.counts b.placed))

  module _ (d : Tabled) (xs ys chosen outside : List ℕ) (H : HeldBy w d xs ys) where
    abbrev filled : Filled
    filled = record { areas = d.areas; symbols = d.symbols; fixups = 0; known = 0 }

    areas-are : areas_in xs d.areas ≡ t.areas
    unfolding tables_in
    areas-are = ap (λ (x : Tables). x.areas) H.tables-are

    symbols-are : symbols_in ys d.symbols ≡ t.symbols
    unfolding tables_in
    symbols-are = ap (λ (x : Tables). x.symbols) H.tables-are

    many-symbols : d.symbols ≡ length t.symbols
    unfolding symbols_in
    many-symbols = sym (from-length (symbol_at ys) 0 d.symbols) ∙ ap length symbols-are

    few-is : sizes.few d.areas ≡ d.areas
    unfolding sizes.few
    few-is = rw (le-leb d.areas 64 H.few)

    for-is : tables_for xs ys filled ≡ t
    unfolding tables_for sites.few
    for-is = rw (le-leb d.areas 64 H.few) H.tables-are

    size_is : total (areas_in xs (sizes.few d.areas)) ≡ total t.areas
    size_is = ap (λ (n : ℕ). total (areas_in xs n)) few-is ∙ ap total areas-are

    enough-is : enough xs d.areas d.symbols chosen outside ≡ addressed w chosen outside
    unfolding enough addressed
    enough-is =
        ap (λ (n : ℕ). leb (kept_count (areas_in xs n)) (length chosen) && leb d.symbols (length outside)) few-is
        ∙ (ap (λ (l : List Area). leb (kept_count l) (length chosen) && leb d.symbols (length outside)) areas-are
        ∙ ap (λ (n : ℕ). leb (kept_count t.areas) (length chosen) && leb n (length outside)) many-symbols)

    fits-same : fits_rows xs d.areas ps fs many d.width ≡ fit fm t qs
    fits-same = rows_fit fm t xs d.areas H.few areas-are ps bs fs many qs rows-of d.width H.address few-pairs

    fits-is : fits_rows xs d.areas ps fs many d.width ≡ fit_read w
    unfolding fit_read
    fits-is = fits-same ∙ placed-fit fm t w.parsed.records.pairs

    told-by-name : Told t chosen outside
    told-by-name = record { tells = λ i u q. the-place-tells-the-index true roomy s w e i u q chosen outside }

    module _ (old : List ℕ) (long : 65536 ≤ length old) where
      zeros-are : sets old 0 (replicate (total t.areas) 0) ≡ replicate (total t.areas) 0 ++ drop (total t.areas) old
      zeros-are =
          let z : length (replicate {A = ℕ} (total t.areas) 0) ≡ total t.areas = length-replicate {A = ℕ} (total t.areas) 0 in
          let y : 0 + length (replicate {A = ℕ} (total t.areas) 0) ≡ total t.areas = omega (arith, z) in
          sets-eq (replicate (total t.areas) 0) old 0 (omega (arith, roomy-areas s w e)) ∙ ap (λ (n : ℕ). replicate (total t.areas) 0 ++ drop n old) y

      bytes-are : fit fm t qs ≡ true
          → rows_over d.big d.width (around xs ys filled chosen outside) ps bs fs 0 (min many 4096) (sets old 0 (replicate (total (areas_in xs (sizes.few d.areas))) 0))
          ≡ over (laid_read (by_index t chosen outside) w) old
      unfolding over laid_read laid_bytes
      bytes-are f =
          let n-is : min many 4096 ≡ many = omega (arith, few-pairs) in
          let ch = by_index t chosen outside in
          let r = drop (total t.areas) old in
          let z : length (replicate {A = ℕ} (total t.areas) 0) ≡ total t.areas = length-replicate {A = ℕ} (total t.areas) 0 in
          ap (λ (n : ℕ). rows_over d.big d.width (around xs ys filled chosen outside) ps bs fs 0 (min many 4096) (sets old 0 (replicate n 0))) size_is
          ∙ (ap (rows_over d.big d.width (around xs ys filled chosen outside) ps bs fs 0 (min many 4096)) zeros-are
          ∙ (ap (λ (n : ℕ). rows_over d.big d.width (around xs ys filled chosen outside) ps bs fs 0 n (replicate (total t.areas) 0 ++ r)) n-is
          ∙ (ap (λ (b : Bool). rows_over b d.width (around xs ys filled chosen outside) ps bs fs 0 many (replicate (total t.areas) 0 ++ r)) H.order
          ∙ (rows-laid fm t xs ys filled for-is H.few areas-are (roomy-areas s w e) chosen outside told-by-name d.width H.address ps bs fs many qs rows-of
          (fit-bodies fm t xs d.areas H.few areas-are ps bs fs many qs rows-of d.width H.address f) r many 0 (omega arith) (replicate (total t.areas) 0) z
          ∙ (ap (λ (l : List ℕ). l ++ r) (placed-laid fm t ch w.parsed.records.pairs (replicate (total t.areas) 0))
          ∙ ap (λ (n : ℕ). laid_pairs fm t ch w.parsed.records.pairs (replicate (total t.areas) 0) ++ drop n old) (sym (as_many ch)))))))
        where
          as_many : (ch : Chosen) → length (laid_pairs fm t ch w.parsed.records.pairs (replicate (total t.areas) 0)) ≡ total t.areas
          as_many ch = as-many-laid-bytes-as-positions w ch

      -- by the two tests
      says-by : (a f : Bool) → answer_by a f (total t.areas) ≡ count_of (pick a (pick f (fine (laid_read (by_index t chosen outside) w)) (refused 25 0)) (refused 1 0))
      unfolding answer_by
      says-by true true = ap (λ (n : ℕ). fine n) (sym (as-many-laid-bytes-as-positions w (by_index t chosen outside)))
      says-by true false = refl
      says-by false f = refl

      held_by : (a f : Bool) (l : List ℕ) → (f ≡ true → l ≡ over (laid_read (by_index t chosen outside) w) old)
          → pick (a && f) l old ≡ held_after (pick a (pick f (fine (laid_read (by_index t chosen outside) w)) (refused 25 0)) (refused 1 0)) old
      held_by true true l k = k refl
      held_by true false l k = refl
      held_by false f l k = refl

      pub module-says : {r : Placed} {new : List ℕ} → RowsPlaced xs ys filled ps bs fs many d.big d.width chosen outside old r new → told r ≡ count_of (code_in chosen outside w)
      unfolding code_in
      module-says {r} {new} P =
          P.says
          ∙ (ap (λ (b : Bool). answer_by b (fits_rows xs d.areas ps fs many d.width) (total (areas_in xs (sizes.few d.areas)))) enough-is
          ∙ (ap (λ (b : Bool). answer_by (addressed w chosen outside) b (total (areas_in xs (sizes.few d.areas)))) fits-is
          ∙ (ap (λ (n : ℕ). answer_by (addressed w chosen outside) (fit_read w) n) size_is ∙ says-by (addressed w chosen outside) (fit_read w))))

      pub module-holds : {r : Placed} {new : List ℕ} → RowsPlaced xs ys filled ps bs fs many d.big d.width chosen outside old r new → new ≡ held_after (code_in chosen outside w) old
      unfolding code_in
      module-holds {r} {new} P =
          let l = rows_over d.big d.width (around xs ys filled chosen outside) ps bs fs 0 (min many 4096) (sets old 0 (replicate (total (areas_in xs (sizes.few d.areas))) 0)) in
          P.held
          ∙ (ap (λ (b : Bool). pick (b && fits_rows xs d.areas ps fs many d.width) l old) enough-is
          ∙ (ap (λ (b : Bool). pick (addressed w chosen outside && b) l old) fits-is
          ∙ held_by (addressed w chosen outside) (fit_read w) l (λ f. bytes-are (sym fits-same ∙ (fits-is ∙ f)))))

-- `by_tables`
pub tables-place : (s ps bs fs xs ys chosen outside old : List ℕ) (many : ℕ) → Rowed s ps bs fs many → 65536 ≤ length old → {d : Tabled} → TablesHeld s d xs ys → {r : Placed} {new : List ℕ}
    → RowsPlaced xs ys (record { areas = d.areas; symbols = d.symbols; fixups = 0; known = 0 }) ps bs fs many d.big d.width chosen outside old r new → ReadPlaced s chosen outside old r new
tables-place s ps bs fs xs ys chosen outside old many o long {d} H P = record {
  says = λ w e. module-says s w e ps bs fs many o d xs ys chosen outside (H.holds w e) old long P;
  held = λ w e. module-holds s w e ps bs fs many o d xs ys chosen outside (H.holds w e) old long P;
}

pub ruleset by-tables = (rules, tables-place)

-- ------------------------------------------------------------------ `by_records`

module _ (s ps₀ bs₀ fs₀ chosen outside old : List ℕ) (lp : length ps₀ ≡ 28672) (lb : length bs₀ ≡ 32768) (lf : length fs₀ ≡ 24576) (long : 65536 ≤ length old)
    (q : PairsAnswer) {ps bs fs : List ℕ} (m : paper.PairsMeet s (held ps₀ bs₀ fs₀) (rows.told q) (held ps bs fs)) where
  has_room : paper.pairs_room (held ps₀ bs₀ fs₀) ≡ true
  unfolding paper.pairs_room
  has_room = rw (lp, lb, lf)

  says-it : rows.told q ≡ (paper.pairs_from (read true roomy s)).answer
  says-it = roomy-says s ps₀ bs₀ fs₀ q m has_room

  enough-room : code_of s chosen outside (length old) ≡ and_then (read true roomy s) (code_in chosen outside)
  unfolding code_of
  enough-room = rw (le-leb 65536 (length old) long)

  refused-is : (n p : ℕ) → q ≡ (Err (record { number = n; place = p })) → code_of s chosen outside (length old) ≡ refused n p
  refused-is n p e = enough-room ∙ go (read true roomy s) (rw e at says-it)
    where
      go : (o : Outcome Read) → paper.refusal n p ≡ (paper.pairs_from o).answer → and_then o (code_in chosen outside) ≡ refused n p
      go (refused a b) h = let x : n ≡ a = cc in let y : p ≡ b = cc in rw (x, y)
      go (fine w) h = let z : ◌≡◌ {A = ℕ} 0 1 = cc in let y : ⊥ = omega arith in absurd y

  pub records-refused : {z : answers.Refusal} → q ≡ Err z → CodeIs s chosen outside old (Refusal z.number z.place) old
  records-refused {z} e = record { says = sym (ap count_of (refused-is z.number z.place e)); held = sym (ap (λ (o : Outcome (List ℕ)). held_after o old) (refused-is z.number z.place e)) }

  module _ {c : PairCounts} (e : q ≡ Ok c) where
    pub records-placed : {r : Placed} {new : List ℕ} → ReadPlaced s chosen outside old r new → CodeIs s chosen outside old r new
    records-placed a =
        let v = records-read s ps₀ bs₀ fs₀ q m e in
        let x : code_of s chosen outside (length old) ≡ code_in chosen outside v.as_read = enough-room ∙ ap (λ (o : Outcome Read). and_then o (code_in chosen outside)) v.is in
        record {
          says = a.says v.as_read v.is ∙ sym (ap count_of x);
          held = a.held v.as_read v.is ∙ sym (ap (λ (o : Outcome (List ℕ)). held_after o old) x);
        }

pub ruleset by-records = (rules, records-refused, records-placed, records-read, rowed-as)

-- ------------------------------------------------------------------ `place_code`

pub code-short : (s chosen outside old : List ℕ) → length old < 65536 → CodeIs s chosen outside old (Refusal 1 0) old
unfolding code_of
code-short s chosen outside old h = record { says = rw (lt-leb 65536 (length old) h); held = rw (lt-leb 65536 (length old) h) }

pub zeros : (n : ℕ) → length {A = ℕ} (replicate n 0) ≡ n
zeros n = length-replicate {A = ℕ} n 0

pub ruleset lending = (rules, zeros, code-short)
