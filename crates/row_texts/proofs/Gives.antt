-- Rows pass the tests exactly if what is written from them could be given back, and a text of them that is read gives them back.
-- Assumes nothing.
use Prim.Native.Nat.{suc, zero, ℕ, ◌*◌, ◌+◌, ◌-◌, ◌/◌, ◌<◌, ◌^◌, ◌≤◌}
use mathlib.Core.Path.{◌≡◌, ap, refl, subst, sym, ◌∙◌}
use mathlib.Core.Bool.{Bool, false, false≢true, true}
use mathlib.Core.List.{List, [], ◌∷◌}
use native.Mathlib.Omega.{arith}
use lib.ListN.{get_or, length}
use lib.Dec.{leb}
use borrow.Author.Tests.{le-leb, leb-true}
use Rattle.format.specs.Lists.{pick}
use Rattle.format.specs.Header.{Form}
use Rattle.format.specs.Outcome.{Outcome, fine, refused}
use Rattle.format.specs.Records.{Parsed, finished, parsed, verdict}
use Rattle.format.specs.Reading.{Built, Read, allowed, build, headed, lent_room, read, read_of}
use Rattle.laws.specs.Rows.{from}
use Rattle.laws.proofs.Outcomes.{chain, passed}
use Rattle.laws.proofs.Headed.{headed-parsed}
use Rattle.record_rows.specs.ReadPairs.{roomy}
use Rattle.manual.specs.Each.{Each}
use Rattle.written.specs.Named.{Named, NamedEntry, NamedPair, name_of, named_of}
use Rattle.written.specs.Writing.{Good, GoodEntry, GoodPair, written}
use Rattle.written.specs.ReadsBack.{ReadsBack, as_hex}
use Rattle.written.proofs.Printed.{each_map}
use Rattle.written.proofs.Theorem.{what-is-written-reads-back}
use Rattle.written.proofs.Read.{what-is-read-can-be-written}
use Rattle.written.proofs.ReadAgain.{good-records-read, names_of, text-low}
use Rattle.row_texts.specs.RowRecords.{Rows, area_entry, entries_from, pair_at, records_of, text_of}
use Rattle.row_texts.specs.GivesBack.{GivesBack, PairInside, areas_of, standing_at, symbols_of}
use Rattle.row_texts.specs.GoodRows.{all, good_area, good_pair, good_pairs, good_rows, good_symbols}
use Rattle.row_texts.proofs.Lines.{Ordered, areas-given, each-area, each_line, each-symbol, lines-back, symbols-given}
use Rattle.row_texts.proofs.Tests.{Fine, Small, all-good, all-inside, areas-fine, both, both_of, fine-areas, fine-symbols, good-all, symbols-fine}

-- rows that pass the tests
pub record Tested (f : Form) (r : Rows) : Type 0 where
  pub good : Good f (records_of r)
  pub ordered : Ordered r.text r.areas r.area_count r.symbols 0 0 r.symbol_count
  pub rows_inside : 7 * r.pair_count ≤ length r.pairs
  pub pairs-inside : (i : ℕ) → i < r.pair_count → PairInside r i

module _ (f : Form) (r : Rows) where
  abbrev Es : List NamedEntry
  Es = entries_from r.text r.areas r.area_count r.symbols 0 0 r.symbol_count

  abbrev As : List NamedEntry
  As = from (area_entry r.text r.areas) 0 r.area_count

  same-areas : Ordered r.text r.areas r.area_count r.symbols 0 0 r.symbol_count → areas_of Es ≡ As
  same-areas o =
      let z : r.area_count - 0 ≡ r.area_count = omega arith in
      areas-given r.text r.areas r.area_count r.symbols 0 0 r.symbol_count o ∙ ap (λ (n : ℕ). from (area_entry r.text r.areas) 0 n) z

  pub tested : 2 ≤ f.address_length → f.address_length ≤ 4 → Small r.areas → Small r.symbols → ((i : ℕ) → get_or r.content i 0 < 256) → good_rows f r ≡ true → Tested f r
  unfolding good_rows good_pairs records_of
  tested l u sa ss sb h =
      let w = both_of (all (good_area r.text r.areas) 0 r.area_count) _ h in
      let x = both_of (good_symbols r.text r.area_count r.symbols 0 0 r.symbol_count) _ w.1 in
      let y = both_of (leb r.pair_count (length r.pairs / 7)) _ x.1 in
      let af = areas-fine r.text r.areas sa 0 r.area_count w.0 in
      let sf = symbols-fine r.text r.areas r.area_count r.symbols ss 0 0 r.symbol_count x.0 in
      let ea : Each Fine (areas_of Es) = subst (Each Fine) (sym (same-areas sf.0)) af in
      let es : Each (λ s. Fine s.entry) (symbols_of 0 Es) = subst (Each (λ s. Fine s.entry)) (sym (symbols-given r.text r.areas r.area_count r.symbols 0 0 r.symbol_count sf.0)) sf.1 in
      let e : Each Fine Es = each_line Fine 0 Es ea es in
      let n = leb-true r.pair_count (length r.pairs / 7) y.0 in
      record {
        good = record { low = l; high = u; entries = each_map Fine GoodEntry Es (λ e w. w.0) e; pairs = all-good f.address_length r sb 0 r.pair_count y.1 };
        ordered = sf.0;
        rows_inside = omega (arith, n);
        pairs-inside = λ i k. all-inside f.address_length r sb 0 r.pair_count y.1 i (omega arith) (omega arith);
      }

  -- what was read is what was parsed
  same-parsed : (p : Parsed) (again : Read) → read_of p ≡ fine again → p ≡ again.parsed
  unfolding read_of
  same-parsed p again h =
      let k = chain (build p.form p.records) _ again h in
      let e : record { parsed = p; built = k.value } ≡ again = cc k.second in
      ap (λ (x : Read). x.parsed) e

  record Open (again : Read) : Type 0 where
    pub k : ℕ
    pub first : allowed roomy (text_of f r) ≡ fine k
    pub second : parsed true (text_of f r) ≡ fine again.parsed

  opens : (again : Read) → read true roomy (text_of f r) ≡ fine again → Open again
  unfolding read
  opens again h =
      let one = chain (allowed roomy (text_of f r)) (λ k. _) again h in
      let two = chain (headed true (text_of f r)) read_of again one.second in
      record { k = one.value; first = one.first; second = headed-parsed true (text_of f r) two.value two.first ∙ ap fine (same-parsed two.value again two.second) }

  entries-are : (records_of r).entries ≡ Es
  unfolding records_of
  entries-are = refl

  pairs-are : (records_of r).pairs ≡ from (pair_at r.pairs r.content r.fragments) 0 r.pair_count
  unfolding records_of
  pairs-are = refl

  same_back : (b : ReadsBack f (records_of r)) (p : Parsed) → parsed true (text_of f r) ≡ fine p → b.back ≡ p
  unfolding text_of
  same_back b p e = let q : fine b.back ≡ fine p = sym b.accepted ∙ e in cc

  named_back : (b : ReadsBack f (records_of r)) → named_of (text_of f r) b.back.records ≡ records_of r
  unfolding text_of
  named_back b = b.its-names

  finished-back : (b : ReadsBack f (records_of r)) → verdict (text_of f r) b.back ≡ finished
  unfolding text_of
  finished-back b = b.is-finished

  -- rows that pass the tests are given back by a text of them that is read
  pub given_back : Tested f r → (again : Read) → read true roomy (text_of f r) ≡ fine again → GivesBack f r
  given_back t again h =
      let o = opens again h in
      let b : ReadsBack f (records_of r) = what-is-written-reads-back f (records_of r) t.good in
      let same : b.back ≡ again.parsed = same_back b again.parsed o.second in
      let names : named_of (text_of f r) again.parsed.records ≡ records_of r = rw (← same) (named_back b) in
      let entries : (named_of (text_of f r) again.parsed.records).entries ≡ Es = ap (λ (n : Named). n.entries) names ∙ entries-are in
      record {
        again = again;
        accepted = h;
        is-finished = rw (← same) (finished-back b);
        its-form = rw (← same) b.its-form;
        its-areas = ap areas_of entries ∙ same-areas t.ordered;
        its-symbols = ap (symbols_of 0) entries ∙ symbols-given r.text r.areas r.area_count r.symbols 0 0 r.symbol_count t.ordered;
        its-pairs = ap (λ (n : Named). n.pairs) names ∙ pairs-are;
        rows_inside = t.rows_inside;
        pairs-inside = t.pairs-inside;
      }

  -- and only such rows are given back
  pub given-back-is-tested : GivesBack f r → good_rows f r ≡ true
  unfolding good_rows good_pairs named_of
  given-back-is-tested g =
      let w = text_of f r in
      let p = g.again.parsed in
      let n = named_of w p.records in
      let o = opens g.again g.accepted in
      let d : Good p.form n = what-is-read-can-be-written true w p o.second in
      let z : r.area_count ≡ r.area_count - 0 = omega arith in
      let back = lines-back r.text r.areas r.area_count r.symbols n.entries 0 0 r.symbol_count (omega arith) (g.its-areas ∙ ap (λ (m : ℕ). from (area_entry r.text r.areas) 0 m) z) g.its-symbols in
      let low = names_of (λ b. b < 128) w (text-low roomy w w o.k o.first) p.records.entries in
      let fines : Each Fine n.entries = each_both GoodEntry (λ e. Each (λ b. b < 128) (name_of e)) n.entries d.entries low in
      let fa : Each Fine As = subst (Each Fine) g.its-areas (each-area Fine n.entries fines) in
      let fs = subst (Each (λ s. Fine s.entry)) g.its-symbols (each-symbol Fine 0 n.entries fines) in
      let len : p.form.address_length ≡ f.address_length = ap (λ (x : Form). x.address_length) g.its-form in
      let dp : Each (GoodPair p.form.address_length) (from (pair_at r.pairs r.content r.fragments) 0 r.pair_count) = subst (Each (GoodPair p.form.address_length)) g.its-pairs d.pairs in
      let fp : Each (GoodPair f.address_length) (from (pair_at r.pairs r.content r.fragments) 0 r.pair_count) = rw (← len) dp in
      let room : r.pair_count ≤ length r.pairs / 7 = omega (arith, g.rows_inside) in
      both (all (good_area r.text r.areas) 0 r.area_count) _ (fine-areas r.text r.areas 0 r.area_count fa)
      (both (good_symbols r.text r.area_count r.symbols 0 0 r.symbol_count) _ (fine-symbols r.text r.areas r.area_count r.symbols 0 0 r.symbol_count back.1 fs)
      (both (leb r.pair_count (length r.pairs / 7)) _ (le-leb r.pair_count (length r.pairs / 7) room)
      (good-all f.address_length r 0 r.pair_count fp (λ j l u. g.pairs-inside j (omega arith)))))
    where
      each_both : (P P' : NamedEntry → Type 0) (es : List NamedEntry) → Each P es → Each P' es → Each (λ e. P e × P' e) es
      each_both P P' [] h i = tt
      each_both P P' (e ∷ es) h i = ((h.0, i.0), each_both P P' es h.1 i.1)

  short : (k : ℕ) → allowed roomy (text_of f r) ≡ fine k → length (text_of f r) ≤ 65536
  unfolding allowed
  short k e = leb-true (length (text_of f r)) 65536 (passed (leb (length (text_of f r)) 65536) _ 2 0 k (passed (lent_room roomy) _ 1 0 k e).1).0

  -- a text that is read has at most 65,536 bytes
  pub read-is-short : (again : Read) → read true roomy (text_of f r) ≡ fine again → length (text_of f r) ≤ 65536
  read-is-short again h = let o = opens again h in short o.k o.first
