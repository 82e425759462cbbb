-- Where the bytes of two neighbouring pairs with no common position are exchanged, the ended reading gives
-- the same answer, rows and images, and the same fixups but for the order of two runs.
-- Assumes nothing.
use Prim.Native.Nat.{ℕ, ◌+◌}
use mathlib.Core.Path.{◌≡◌, sym, ap, subst, ◌∙◌}
use mathlib.Core.Bool.{true}
use mathlib.Core.List.{List, ◌∷◌, ◌++◌}
use native.Mathlib.Omega.{arith}
use lib.ListN.{length, length-append}
use lib.Dec.{eqb}
use Rattle.format.specs.Lists.{flat, pick}
use Rattle.format.specs.Header.{Form}
use Rattle.format.specs.Pairs.{Pair}
use Rattle.format.specs.Outcome.{fine}
use Rattle.format.specs.Records.{Parsed, Taken, Verdict, finished, parsed, stop, stopped, verdict}
use Rattle.format.specs.Tables.{Tables, kept_count}
use Rattle.format.specs.Fixups.{Fixup, by_area}
use Rattle.format.specs.Rows.{area_table, fixup_numbers, symbol_numbers}
use Rattle.format.specs.Reading.{Built, Counts, Lent, Read, Reading, accepted, allowed, counts_of, fixups_of, read, reading, reading_of}
use Rattle.laws.specs.PairRows.{all_rows}
use Rattle.laws.proofs.Opened.{opened, opens}
use Rattle.laws.proofs.WasRead.{what-was-read}
use Rattle.order.specs.Writes.{rows}
use Rattle.format.specs.Known.{known_bits}
use Rattle.order.specs.Order.{Apart}
use Rattle.order.specs.Texts.{OtherText, ReadAlike, exchanged}
use Rattle.order.proofs.Bytes.{exchanged-allowed, exchanged-length}
use Rattle.order.proofs.Grouped.{flat-runs, grouped-apart, grouped-together}
use Rattle.order.proofs.Texts.{texts-in-either-order}
use Rattle.order.proofs.TurnedText.{TurnedText, turn-text}

-- ------------------------------------------------------------------ what is read of both

-- the verdict goes by the place where the reading stopped and the length of the text
same-verdict : (text other : List ℕ) (p q : Parsed) → stop p ≡ stop q → length text ≡ length other → verdict text p ≡ verdict other q
unfolding verdict
same-verdict text other p q e f =
    ap (λ (n : ℕ). pick (eqb n (length text)) finished (stopped n)) e ∙ ap (λ (n : ℕ). pick (eqb (stop q) n) finished (stopped (stop q))) f

-- counts go by the tables, the lines, the size and the number of fixups
same-counts : (b c : Built) → b.tables ≡ c.tables → b.lines ≡ c.lines → b.size ≡ c.size → length b.state.fixups ≡ length c.state.fixups → counts_of b ≡ counts_of c
unfolding counts_of
same-counts b c t l z f = λ i. record {
  areas = length (t i).areas;
  symbols = length (t i).symbols;
  lines = l i;
  kept = kept_count (t i).areas;
  positions = z i;
  fixups = f i;
}

as_many : (x u v y : List Fixup) → length (x ++ (u ++ (v ++ y))) ≡ length (x ++ (v ++ (u ++ y)))
as_many x u v y = simp length-append (omega arith)

-- ------------------------------------------------------------------ the theorem

module _ (l : Lent) (text other : List ℕ) (w : Read) (before behind : List (Taken Pair)) (a b : Taken Pair)
    (was : read true l text ≡ fine w) (o : OtherText true l other w before behind a b)
    (same_stop : stop w.parsed ≡ stop o.other.parsed) (same_length : length text ≡ length other) where
  one-read : reading true l text ≡ reading_of text (fine w)
  unfolding reading
  one-read = ap (reading_of text) was

  other-read : reading true l other ≡ reading_of other (fine o.other)
  unfolding reading
  other-read = ap (reading_of other) o.accepted

  abbrev fm : Form
  fm = w.parsed.form

  abbrev t : Tables
  t = w.built.tables

  -- the fixups of all pairs, and of all in the other order
  abbrev ones : List Fixup
  ones = all_rows fm t before ++ (rows fm t a ++ (rows fm t b ++ all_rows fm t behind))

  abbrev others : List Fixup
  others = all_rows fm t before ++ (rows fm t b ++ (rows fm t a ++ all_rows fm t behind))

  one-fixups : (reading true l text).fixups ≡ flat fixup_numbers (by_area (kept_count t.areas) 0 ones)
  unfolding fixups_of
  one-fixups = ap (λ (r : Reading). r.fixups) one-read ∙ ap (λ (xs : List Fixup). flat fixup_numbers (by_area (kept_count t.areas) 0 xs)) o.fixups

  other-fixups : (reading true l other).fixups ≡ flat fixup_numbers (by_area (kept_count t.areas) 0 others)
  unfolding fixups_of
  other-fixups =
      ap (λ (r : Reading). r.fixups) other-read
      ∙ (ap (λ (x : Tables). flat fixup_numbers (by_area (kept_count x.areas) 0 o.other.built.state.fixups)) (sym o.same_tables)
      ∙ ap (λ (xs : List Fixup). flat fixup_numbers (by_area (kept_count t.areas) 0 xs)) o.other-fixups)

  same-masks : (reading true l text).masks ≡ (reading true l other).masks
  same-masks = ap (λ (r : Reading). r.masks) one-read ∙ (o.same.masks ∙ sym (ap (λ (r : Reading). r.masks) other-read))

  read_alike : ReadAlike l text other fm t a b
  read_alike = record {
    answer =
        ap (λ (r : Reading). r.answer) one-read
        ∙ (ap (λ (c : Counts). accepted c (verdict text w.parsed))
        (same-counts w.built o.other.built o.same_tables o.same_lines o.same_size
        (ap length o.fixups ∙ (as_many (all_rows fm t before) (rows fm t a) (rows fm t b) (all_rows fm t behind) ∙ sym (ap length o.other-fixups))))
        ∙ (ap (λ (v : Verdict). accepted (counts_of o.other.built) v) (same-verdict text other w.parsed o.other.parsed same_stop same_length)
        ∙ sym (ap (λ (r : Reading). r.answer) other-read)));
    areas = ap (λ (r : Reading). r.areas) one-read ∙ ((λ j. area_table (o.same_tables j).areas (o.same.masks j)) ∙ sym (ap (λ (r : Reading). r.areas) other-read));
    symbols = ap (λ (r : Reading). r.symbols) one-read ∙ (ap (λ (x : Tables). flat symbol_numbers x.symbols) o.same_tables ∙ sym (ap (λ (r : Reading). r.symbols) other-read));
    values = ap (λ (r : Reading). r.values) one-read ∙ (o.same.values ∙ sym (ap (λ (r : Reading). r.values) other-read));
    masks = same-masks;
    known = λ i. ap (known_bits t.areas i) same-masks;
    fixups-apart = λ d.
        one-fixups
        ∙ (ap (flat fixup_numbers) (grouped-apart fm t a b (all_rows fm t before) (all_rows fm t behind) d (kept_count t.areas))
        ∙ sym other-fixups);
    fixups-together = λ e.
        let r = flat-runs fixup_numbers (grouped-together fm t a b (all_rows fm t before) (all_rows fm t behind) e) in
        record { before = r.before; behind = r.behind; has = one-fixups ∙ r.has; has-exchanged = other-fixups ∙ r.has-exchanged };
  }

-- the bytes of two neighbouring pairs that write no common position may be exchanged
pub exchanged-pairs-are-read-alike : (l : Lent) (text : List ℕ) (w : Read) (before behind : List (Taken Pair)) (a b : Taken Pair)
    → read true l text ≡ fine w → w.parsed.records.pairs ≡ before ++ a ∷ b ∷ behind → Apart w.parsed.form w.built.tables a b
    → ReadAlike l text (exchanged a.place b.place b.end text) w.parsed.form w.built.tables a b
exchanged-pairs-are-read-alike l text w before behind a b was are d =
    let o = what-was-read true l text w was in
    let p = opens text w.parsed o.parses in
    let is-there : (opened p.h p.e text).records.pairs ≡ before ++ a ∷ b ∷ behind = ap (λ (x : Parsed). x.records.pairs) p.same ∙ are in
    let turns : TurnedText text w.parsed before behind a b =
    subst (λ (x : Parsed). TurnedText text x before behind a b) p.same
    (turn-text p.h p.e text before behind a b (record { head = p.is-head; end = p.is-end }) is-there) in
    let other : List ℕ = turns.front ++ (turns.other ++ (turns.one ++ turns.rest)) in
    let may = exchanged-allowed l turns.front turns.one turns.other turns.rest o.passes (subst (λ (x : List ℕ). allowed l x ≡ fine o.passes) turns.is o.allows) in
    let k = texts-in-either-order true l text other w turns.parsed-as 0 before behind a b was are may turns.parses turns.same-form turns.same_entries turns.same-bodies d in
    let again : fine turns.parsed-as ≡ fine k.other.parsed = sym turns.parses ∙ (what-was-read true l other k.other k.accepted).parses in
    let same : turns.parsed-as ≡ k.other.parsed = cc in
    let long : length text ≡ length other = ap length turns.is ∙ sym (exchanged-length turns.front turns.one turns.other turns.rest) in
    subst (λ (x : List ℕ). ReadAlike l text x w.parsed.form w.built.tables a b) (sym turns.exchanges)
    (read_alike l text other w before behind a b was k (turns.same_stop ∙ ap stop same) long)
