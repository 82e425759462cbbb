-- What the proofs of the whole share: a law for each return.
-- Assumes nothing.
use Prim.Native.Nat.{ℕ, suc, ◌+◌, ◌≤◌}
use mathlib.Core.Path.{◌≡◌, refl, ap, sym, subst, ◌∙◌}
use mathlib.Core.Bool.{true}
use mathlib.Core.List.{List, []}
use mathlib.Core.Option.{Option, some}
use native.Mathlib.Omega.{arith}
use mir.Val.{Fits}
use mir.Syntax.{w64}
use lib.Dec.{leb}
use lib.ListN.{length, drop, replicate, length-replicate, length-drop}
use borrow.Author.Rules.{rules}
use borrow.Author.Tests.{leb-true}
use Rattle.format.specs.Header.{Form, Head, header}
use Rattle.format.specs.Lines.{end_length, lines, lines_of}
use Rattle.format.specs.Lists.{over}
use Rattle.format.specs.Outcome.{Outcome, fine, refused, and_then}
use Rattle.format.specs.Pairs.{Pair}
use Rattle.format.specs.Records.{Parsed, Records, Taken, records}
use Rattle.format.specs.Reading.{Read, allowed, lent_room, read}
use Rattle.format.specs.Tables.{Tables, counted, room, tables, total}
use Rattle.format.specs.Placing.{placing}
use Rattle.laws.specs.Places.{records_at}
use Rattle.laws.proofs.Opened.{Opened, opened, opens}
use Rattle.laws.proofs.Outcomes.{passed}
use Rattle.laws.proofs.WasRead.{WasRead, what-was-read}
use Rattle.steps.proofs.Entries.{end-within}
use Rattle.header.specs.Told.{form_of, more_of, told_head}
use Rattle.header.specs.declared.Form as text
use Rattle.header.specs.declared.Head as code
use Rattle.header.specs.declared.Head.TheVariants.{Found, Missing}
use Rattle.header.specs.declared.Width.{Width}
use Rattle.header.specs.declared.Width.TheVariants.{Two, Three, Four}
use Rattle.tables.specs.declared.group.Found as one
use Rattle.tables.specs.declared.group.Listed.{Listed}
use Rattle.tables.specs.declared.group.Listed.TheVariants.{Done, Refused, TooLong}
use Rattle.tables.specs.GroupOne.{Grouped}
use Rattle.tables.specs.GroupOne as group
use Rattle.tables.proofs.TableRows.{areas-held}
use Rattle.last_writer.specs.LastWriter.{Found as Writer, last_writer, position_in, span_from, writer_in, writer_of}
use Rattle.record_rows.specs.ReadPairs as paper
use Rattle.record_rows.specs.ReadPairs.{roomy}
use Rattle.record_rows.specs.RecordRows.{content_bytes, fragment_rows, pair_rows}
use Rattle.record_rows.proofs.Roomy.{few-records}
use Rattle.pairs_answer.specs.Told.{held}
use Rattle.pairs_answer.specs.Told as rows
use Rattle.admission.specs.Admits.{IsRead}
use Rattle.std.specs.Prelude.{Ok, Err}
use Rattle.answer.specs.declared.Refusal as answers
use Rattle.pairs_answer.specs.Told.{PairsAnswer}
use Rattle.record_parts.specs.Parts.{placed_of}
use Rattle.record_parts.proofs.Decoded.{Standing}
use Rattle.position_answer.specs.declared.Explained.{Explained}
use Rattle.position_answer.specs.declared.Explained.TheVariants as say
use Rattle.one_position.specs.Back.{RowsAre}
use Rattle.position_answer.specs.Answer.{told}
use Rattle.one_position.specs.Answer.{AnswerIs}
use Rattle.one_position.specs.Explain.{Rowed, TablesTell, Told}
use Rattle.one_position.proofs.Rows.{all_sound, placed-last, rows_are}
use Rattle.one_position.proofs.RecordLaws.{records-read, roomy-says, rowed-as}

-- a text that is read is no longer than its bound, and its areas take no more than theirs
module _ (s : List ℕ) (w : Read) (e : read true roomy s ≡ fine w) where
  pub was : WasRead true roomy s w
  was = what-was-read true roomy s w e

  pub short : length s ≤ 65536
  unfolding allowed
  short =
      let a = passed (lent_room roomy) _ 1 0 was.passes was.allows in
      let b = passed (leb (length s) 65536) _ 2 0 was.passes a.1 in
      leb-true (length s) 65536 b.0

  pub roomy-areas : total w.built.tables.areas ≤ 65536
  unfolding room
  roomy-areas = leb-true (total w.built.tables.areas) 65536 (passed (leb (total w.built.tables.areas) 65536) _ 9 0 w.built.size was.builds.roomy).0

-- `bytes_of`
pub two_bytes : {x : Width} → x ≡ Two → 2 ≡ suc (more_of x)
two_bytes e = rw e

pub three-bytes : {x : Width} → x ≡ Three → 3 ≡ suc (more_of x)
three-bytes e = rw e

pub four_bytes : {x : Width} → x ≡ Four → 4 ≡ suc (more_of x)
four_bytes e = rw e

pub ruleset widths = (rules, two_bytes, three-bytes, four_bytes)

-- `by_tables`
pub narrow : (x : Width) → suc (more_of x) ≤ 4
narrow Two = omega arith
narrow Three = omega arith
narrow Four = omega arith

module _ (s : List ℕ) (at : ℕ) (f : text.Form) (xs₀ ys₀ xs ys ps bs fs : List ℕ) (many id position : ℕ) {q : Listed}
    (g : Grouped true (form_of f) s at at xs₀ ys₀ xs ys q) where
  pub tables-refused : {n p : ℕ} → q ≡ Refused n p → TablesTell s at (form_of f) ps bs fs many id position (say.Refused n p)
  unfolding Grouped
  tables-refused {n} {p} e = record {
    says = λ w r k t o. let g' : group.Refuses true (form_of f) s at xs₀ ys₀ xs ys n p = rw e at g in unlikely (sym g'.says ∙ t);
  }
    where
      unlikely : {C : Type 0} {t : Tables} → refused n p ≡ fine t → C
      unlikely h = let z : ◌≡◌ {A = ℕ} 0 1 = cc in let y : ⊥ = omega arith in absurd y

  pub tables-long : q ≡ TooLong → TablesTell s at (form_of f) ps bs fs many id position (say.Refused 2 0)
  unfolding Grouped
  tables-long e = record {
    says = λ w r k t o. let g' = rw e at g in let y : ⊥ = omega (arith, short s w r, g'.0) in absurd y;
  }

  module _ (lx : length xs₀ ≡ 448) (ly : length ys₀ ≡ 5120) {d : one.Found} (e : q ≡ Done d) where
    got : group.Read true (form_of f) s at at xs₀ ys₀ xs ys d
    unfolding Grouped
    got = rw e at g

    pub tables-few : d.areas ≤ 64
    tables-few = got.areas-low

    pub tables-told : {b : ℕ} → b ≡ suc (more_of f.width) → {r : Explained} → AnswerIs xs d.areas ps bs fs many f.big b id position r
        → TablesTell s at (form_of f) ps bs fs many id position r
    tables-told {b} eb a = record {
      says = λ w x k t o.
          let same : got.sofar ≡ w.built.tables = (let h : fine got.sofar ≡ fine w.built.tables = sym got.entries ∙ t in cc) in
          let areas-are = areas-held got.held (omega (arith, lx, got.areas-low)) (omega (arith, ly, got.symbols-low)) in
          a.answer (form_of f) w.built.tables (placed_of w.parsed.records.pairs) (record {
            areas-are = areas-are ∙ ap (λ (u : Tables). u.areas) same;
            order = refl;
            address = eb;
            narrow = omega (arith, narrow f.width);
            sizes = roomy-areas s w x;
          }) o;
    }

pub ruleset by-tables = (rules, tables-refused, tables-long, tables-few, tables-told)

-- ------------------------------------------------------------------ `by_rows`

-- pairs that have no row do not matter
same_writer : (fm : Form) (t : Tables) (ps : List (Taken Pair)) (id position : ℕ) → writer_of fm t (placed_of ps) id position ≡ writer_of fm t ps id position
unfolding writer_of
same_writer fm t ps id position = go (position_in position (span_from 0 t.areas id))
  where
    go : (o : Outcome ℕ) → and_then o (λ i. fine (last_writer fm t (placed_of ps) i)) ≡ and_then o (λ i. fine (last_writer fm t ps i))
    go (fine i) = ap (λ (x : Option Writer). fine x) (placed-last fm t ps i)
    go (refused n p) = refl

module _ (s ps bs fs : List ℕ) (many id position : ℕ) (v : IsRead s) (o : Rowed s ps bs fs many) where
  abbrev its : Read
  its = v.as_read

  abbrev its-pairs : List (Taken Pair)
  its-pairs = v.as_read.parsed.records.pairs

  pub opening : Opened s v.as_read.parsed
  opening = opens s v.as_read.parsed (was s v.as_read v.is).parses

  pub rows_few : many ≤ 4096
  rows_few = omega (arith, (o.holds v.as_read v.is).counted, (few-records roomy s v.as_read v.is).pairs)

  standing : Standing its-pairs 0 0 0 ps bs fs
  unfolding over
  standing = let k = o.holds v.as_read v.is in record {
    pairs-before = [];
    pairs-behind = drop (length (pair_rows 0 0 its-pairs)) o.old-pairs;
    content-before = [];
    content-behind = drop (length (content_bytes its-pairs)) o.old-content;
    fragments-before = [];
    fragments-behind = drop (length (fragment_rows its-pairs)) o.old-fragments;
    pairs = k.pairs-are;
    content = k.content-is;
    fragments = k.fragments-are;
    pairs-at = refl;
    content-at = refl;
    fragments-at = refl;
  }

  pub rows-of : RowsAre its.parsed.form its.built.tables ps bs fs many (placed_of its-pairs)
  unfolding counted placing
  rows-of =
      let b = (was s v.as_read v.is).builds in
      subst (λ (n : ℕ). RowsAre its.parsed.form its.built.tables ps bs fs n (placed_of its-pairs)) (sym (o.holds v.as_read v.is).counted)
      (rows_are its.parsed.form its.built.tables its-pairs ps bs fs standing (all_sound its.parsed.form its.built.tables its-pairs 0 its.built.lines _ its.built.state b.counts b.placed))

  module _ {h : code.Head} (e : told_head h ≡ header s) where
    pub rows-headless : h ≡ Missing → Told s id position (say.Refused 4 0)
    rows-headless g = absurd (let m : told_head Missing ≡ some opening.h = ap told_head (sym g) ∙ (e ∙ opening.is-head) in let z : ◌≡◌ {A = ℕ} 0 1 = cc in omega arith)

    module _ {f : text.Form} {n : ℕ} (g : h ≡ Found f n) where
      head-is : record { form = form_of f; next = n } ≡ opening.h
      head-is = let m : some (record { form = form_of f; next = n }) ≡ some opening.h = ap told_head (sym g) ∙ (e ∙ opening.is-head) in cc

      module _ {k : ℕ} (i : k ≡ end_length (drop n s)) where
        end_is : k ≡ suc opening.e
        end_is = i ∙ (ap (λ (x : Head). end_length (drop x.next s)) head-is ∙ opening.is-end)

        pub rows_behind : Fits w64 (n + k)
        rows_behind = record { fits = omega (arith, end_is, i, end-within (drop n s), length-drop n s, short s v.as_read v.is) }

        pub records-are : records_at true (form_of f) s (n + k) ≡ its.parsed.records
        unfolding records_at lines_of opened
        records-are =
            ap (λ (m : ℕ). records true (form_of f) (n + m) (lines (drop (n + m) s))) end_is
            ∙ (ap (λ (x : Head). records true x.form (x.next + suc opening.e) (lines (drop (x.next + suc opening.e) s))) head-is
            ∙ ap (λ (x : Parsed). x.records) opening.same)

        pub form-is : form_of f ≡ its.parsed.form
        unfolding opened
        form-is = ap (λ (x : Head). x.form) head-is ∙ ap (λ (x : Parsed). x.form) opening.same

        pub rows_told : {r : Explained} → TablesTell s (n + k) (form_of f) ps bs fs many id position r → Told s id position r
        unfolding writer_in
        rows_told {r} a =
            let entered : tables (records_at true (form_of f) s (n + k)).entries ≡ fine its.built.tables = ap (λ (x : Records). tables x.entries) records-are ∙ (was s v.as_read v.is).builds.entered in
            let rows : RowsAre (form_of f) its.built.tables ps bs fs many (placed_of its-pairs) = subst (λ (x : Form). RowsAre x its.built.tables ps bs fs many (placed_of its-pairs)) (sym form-is) rows-of in
            record {
              says = a.says v.as_read v.is form-is entered rows
                  ∙ (same_writer (form_of f) its.built.tables its-pairs id position
                  ∙ (ap (λ (x : Form). writer_of x its.built.tables its-pairs id position) form-is
                  ∙ ap (λ (x : Outcome Read). and_then x (λ w. writer_of w.parsed.form w.built.tables w.parsed.records.pairs id position)) (sym v.is)));
            }

pub ruleset by_rows = (rules, rows_few, rows-headless, rows_behind, rows_told)

-- ------------------------------------------------------------------ `by_records`

module _ (s ps₀ bs₀ fs₀ : List ℕ) (id position : ℕ) (lp : length ps₀ ≡ 28672) (lb : length bs₀ ≡ 32768) (lf : length fs₀ ≡ 24576)
    (q : PairsAnswer) {ps bs fs : List ℕ} (m : paper.PairsMeet s (held ps₀ bs₀ fs₀) (rows.told q) (held ps bs fs)) where
  has_room : paper.pairs_room (held ps₀ bs₀ fs₀) ≡ true
  unfolding paper.pairs_room
  has_room = rw (lp, lb, lf)

  pub says-it : rows.told q ≡ (paper.pairs_from (read true roomy s)).answer
  says-it = roomy-says s ps₀ bs₀ fs₀ q m has_room

  refuses-at : {n p : ℕ} → q ≡ (Err (record { number = n; place = p })) → Told s id position (say.Refused n p)
  unfolding writer_in
  refuses-at {n} {p} e = record { says = go (read true roomy s) refl (rw e at says-it) }
    where
      go : (o : Outcome Read) → read true roomy s ≡ o → paper.refusal n p ≡ (paper.pairs_from o).answer
          → refused n p ≡ and_then (read true roomy s) (λ w. writer_of w.parsed.form w.built.tables w.parsed.records.pairs id position)
      go (refused a b) r h = let x : n ≡ a = cc in let y : p ≡ b = cc in rw (r, x, y)
      go (fine w) r h = let z : ◌≡◌ {A = ℕ} 0 1 = cc in let y : ⊥ = omega arith in absurd y

  pub records-refused : {z : answers.Refusal} → q ≡ Err z → Told s id position (say.Refused z.number z.place)
  records-refused {z} e = refuses-at {n = z.number} {p = z.place} e

pub ruleset by-records = (rules, records-refused, records-read, rowed-as)

-- ------------------------------------------------------------------ arrays of zeros

pub zeros : (n : ℕ) → length {A = ℕ} (replicate n 0) ≡ n
zeros n = length-replicate {A = ℕ} n 0

pub ruleset lending = (rules, zeros, rows-headless, rows_behind, rows_told, rows_few)
