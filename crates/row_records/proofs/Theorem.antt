-- The rows that a reading leaves stand for the records of the text, so what is written from them is what is written from the records.
-- Assumes nothing.
use Prim.Native.Nat.{ℕ, ◌*◌, ◌+◌, ◌<◌, ◌≤◌}
use mathlib.Core.Path.{◌≡◌, ap, refl, subst, sym, ◌∙◌}
use mathlib.Core.Bool.{Bool, false, true}
use mathlib.Core.List.{List, [], ◌++◌}
use mathlib.Core.Option.{Option, none, some}
use mathlib.Core.Logic.{◌↔◌}
use native.Mathlib.Nat.{zero-add}
use native.Mathlib.Omega.{arith}
use lib.ListN.{get_or, length, length-append}
use lib.Dec.{eqb}
use Rattle.format.specs.Entries.{Entry}
use Rattle.format.specs.Outcome.{fine}
use Rattle.format.specs.Records.{Taken, parsed}
use Rattle.format.specs.Tables.{Area, Symbol, Tables, last_index, tables}
use Rattle.format.specs.Rows.{flag, plus_one_or_zero, symbol_numbers}
use Rattle.format.specs.Reading.{Read, allowed, build, read}
use Rattle.laws.specs.Rows.{area_at, from, symbol_at}
use Rattle.laws.proofs.Decoded.{column, decoded, first-column}
use Rattle.read_rows.proofs.AreaTable.{the-table-decodes}
use Rattle.record_rows.specs.RecordRows.{pair_count, pair_rows}
use Rattle.record_rows.specs.ReadPairs.{roomy}
use Rattle.record_rows.proofs.Roomy.{pair-rows-length}
use Rattle.record_parts.proofs.Decoded.{Standing}
use Rattle.written.specs.Alike.{rewritten}
use Rattle.written.specs.Named.{Named, collected, named_of, taken_entry, taken_pair}
use Rattle.written.specs.Writing.{Good, written}
use Rattle.written.proofs.Read.{what-is-read-can-be-written}
use Rattle.written.proofs.ReadAgain.{what-is-rewritten-of-any-radix}
use Rattle.row_texts.specs.RowRecords.{Rows, entries_from, pair_at, records_of, text_of}
use Rattle.row_texts.specs.GivesBack.{GivesBack, PairInside}
use Rattle.row_texts.proofs.Gives.{Tested, given_back, read-is-short}
use Rattle.row_records.specs.Left.{Left}
use Rattle.row_records.proofs.Entries.{Added, Stands, adds, areas_added, stand, symbols_added}
use Rattle.row_records.proofs.Lying.{names-lie}
use Rattle.row_records.proofs.Pairs.{pairs-inside, pairs-stand}

-- a symbol's row, read back
flag-back : (b : Bool) → eqb (flag b) 1 ≡ b
flag-back true = refl
flag-back false = refl

area-back : (o : Option ℕ) → last_index (plus_one_or_zero o) ≡ o
area-back none = refl
area-back (some n) = refl

symbol-back : (pre : List ℕ) (s : Symbol) (post : List ℕ) (i : ℕ) → length pre ≡ 5 * i → symbol_at (pre ++ (symbol_numbers s ++ post)) i ≡ s
unfolding symbol_at symbol_numbers
symbol-back pre s post i e =
    let ys = symbol_numbers s ++ post in
    let c = column pre ys (5 * i) e in
    let r : eqb (get_or (pre ++ ys) (5 * i + 2) 0) 1 ≡ s.ref = rw (c 2) (flag-back s.ref) in
    let a : last_index (get_or (pre ++ ys) (5 * i + 4) 0) ≡ s.area = rw (c 4) (area-back s.area) in
    λ j. record { name = record { at = first-column pre ys (5 * i) e j; length = c 1 j }; ref = r j; value = c 3 j; area = a j }

five : (s : Symbol) → length (symbol_numbers s) ≡ 5
unfolding symbol_numbers
five s = refl

module _ (text : List ℕ) (r : Read) (x : Rows) (h : parsed true text ≡ fine r.parsed) (k : tables r.parsed.records.entries ≡ fine r.built.tables) (l : Left text r x) where
  abbrev es : List (Taken Entry)
  es = r.parsed.records.entries

  abbrev t : Tables
  t = r.built.tables

  lines : Added (record { areas = []; symbols = [] }) t es
  unfolding tables
  lines = adds es (record { areas = []; symbols = [] }) t k

  areas-back : from (area_at x.areas) 0 (length (areas_added es)) ≡ areas_added es
  areas-back =
      subst (λ (as' : List Area). from (area_at x.areas) 0 (length as') ≡ as') lines.areas
      (ap (λ (rows : List ℕ). from (area_at rows) 0 (length t.areas)) l.areas ∙ the-table-decodes [] t.areas r.built.state.masks l.behind-areas 0 refl)

  symbols-back : from (symbol_at x.symbols) 0 (length (symbols_added 0 es)) ≡ symbols_added 0 es
  symbols-back =
      subst (λ (ss : List Symbol). from (symbol_at x.symbols) 0 (length ss) ≡ ss) lines.symbols
      (ap (λ (rows : List ℕ). from (symbol_at rows) 0 (length t.symbols)) l.symbols ∙ decoded symbol_numbers 5 five symbol_at symbol-back [] t.symbols l.behind-symbols 0 refl)

  stands : Stands x.text x.areas x.symbols x.area_count 0 0 x.symbol_count (collected (taken_entry text) es)
  stands =
      let na : x.area_count ≡ 0 + length (areas_added es) = l.area-count ∙ (ap length lines.areas ∙ sym (zero-add (length (areas_added es)))) in
      let ns : x.symbol_count ≡ length (symbols_added 0 es) = l.symbol-count ∙ ap length lines.symbols in
      let w = stand text x.areas x.symbols x.area_count es 0 0 na areas-back symbols-back (names-lie text r.parsed h) in
      subst (λ (s : List ℕ). Stands s x.areas x.symbols x.area_count 0 0 x.symbol_count (collected (taken_entry text) es)) (sym l.is-text)
      (subst (λ (n : ℕ). Stands text x.areas x.symbols x.area_count 0 0 n (collected (taken_entry text) es)) (sym ns) w)

  entries-are : entries_from x.text x.areas x.area_count x.symbols 0 0 x.symbol_count ≡ collected (taken_entry text) es
  entries-are = stands.is

  all-stand : Standing r.parsed.records.pairs 0 0 0 x.pairs x.content x.fragments
  all-stand = record {
    pairs-before = [];
    pairs-behind = l.behind-pairs;
    content-before = [];
    content-behind = l.behind-content;
    fragments-before = [];
    fragments-behind = l.behind-fragments;
    pairs = l.pairs;
    content = l.content;
    fragments = l.fragments;
    pairs-at = refl;
    content-at = refl;
    fragments-at = refl;
  }

  pairs-are : from (pair_at x.pairs x.content x.fragments) 0 x.pair_count ≡ collected taken_pair r.parsed.records.pairs
  pairs-are =
      ap (λ (n : ℕ). from (pair_at x.pairs x.content x.fragments) 0 n) l.pair-count
      ∙ pairs-stand r.parsed.records.pairs 0 0 0 x.pairs x.content x.fragments all-stand

  -- the records that the rows stand for are the text's
  pub what-is-left-stands-for-the-records : records_of x ≡ named_of text r.parsed.records
  unfolding records_of named_of
  what-is-left-stands-for-the-records = λ j. record { entries = entries-are j; pairs = pairs-are j }

  -- and what is written from the rows is what is written from them
  pub what-is-left-is-written : text_of r.parsed.form x ≡ rewritten text r
  unfolding text_of rewritten
  what-is-left-is-written = ap (λ (n : Named). written r.parsed.form n) what-is-left-stands-for-the-records

  -- they pass the writer's tests
  left-is-tested : Tested r.parsed.form x
  left-is-tested = record {
    good = subst (λ (n : Named). Good r.parsed.form n) (sym what-is-left-stands-for-the-records) (what-is-read-can-be-written true text r.parsed h);
    ordered = stands.ordered;
    rows_inside = long;
    pairs-inside = λ i u. inside i u;
  }
    where
      long : 7 * x.pair_count ≤ length x.pairs
      long =
          let e : length x.pairs ≡ length (pair_rows 0 0 r.parsed.records.pairs) + length l.behind-pairs = ap length l.pairs ∙ length-append (pair_rows 0 0 r.parsed.records.pairs) l.behind-pairs in
          omega (arith, e, pair-rows-length 0 0 r.parsed.records.pairs, l.pair-count)

      inside : (i : ℕ) → i < x.pair_count → PairInside x i
      inside i u =
          let k = pairs-inside r.parsed.records.pairs 0 0 0 x.pairs x.content x.fragments all-stand i (omega arith) (omega (arith, u, l.pair-count)) in
          record { content = k.0; fragments = k.1 }

  -- so the writer gives them back, exactly if the text is no longer than a text may be
  pub given-back-exactly-if-short : (k : ℕ) → allowed roomy text ≡ fine k → build r.parsed.form r.parsed.records ≡ fine r.built
      → (length (rewritten text r) ≤ 65536) ↔ GivesBack r.parsed.form x
  given-back-exactly-if-short k a b = (to, back)
    where
      to : length (rewritten text r) ≤ 65536 → GivesBack r.parsed.form x
      to s =
          let w = what-is-rewritten-of-any-radix true roomy text k r.parsed r.built a h b s in
          given_back r.parsed.form x left-is-tested w.again (subst (λ (t : List ℕ). read true roomy t ≡ fine w.again) (sym what-is-left-is-written) w.accepted)

      back : GivesBack r.parsed.form x → length (rewritten text r) ≤ 65536
      back g = subst (λ (t : List ℕ). length t ≤ 65536) what-is-left-is-written (read-is-short r.parsed.form x g.again g.accepted)
