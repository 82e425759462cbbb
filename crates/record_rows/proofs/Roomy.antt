-- The rows of an accepted text always have room, and which lent buffers a text was read with does not matter.
-- Assumes nothing.
use Prim.Native.Nat.{suc, ℕ, ◌*◌, ◌+◌, ◌≤◌}
use mathlib.Core.Path.{◌≡◌, ap, refl, sym, ◌∙◌}
use mathlib.Core.Bool.{Bool, false, false≢true, true, ◌&&◌}
use mathlib.Core.List.{List, [], ◌∷◌}
use native.Mathlib.Omega.{arith}
use lib.ListN.{drop, length, length-append, length-drop}
use lib.Dec.{leb}
use borrow.Author.Tests.{leb-true}
use Rattle.format.specs.Lists.{flat, over, pick}
use Rattle.format.specs.Header.{Form}
use Rattle.format.specs.Lines.{Line, lines, taken, width}
use Rattle.format.specs.Entries.{Entry}
use Rattle.format.specs.Outcome.{Outcome, and_then, fine}
use Rattle.format.specs.Pairs.{Fragment, Pair, placed, skipped}
use Rattle.format.specs.Records.{Parsed, Records, Step, Taken, both, entry_step, goes, last, pairs, parsed, records, stops}
use Rattle.format.specs.Reading.{Lent, Read, allowed, first_high, lent_room, no_high, read, read_of}
use Rattle.laws.proofs.Opened.{Opened, opened, opens}
use Rattle.laws.proofs.Outcomes.{passed}
use Rattle.laws.proofs.WasRead.{WasRead, what-was-read}
use Rattle.laws.proofs.Room.{flat-length}
use Rattle.record_rows.specs.RecordRows.{all_fragments, content_bytes, content_in, count_in, fragment_columns, fragment_numbers, fragment_rows, fragments_of, most_content, most_fragments, most_pairs, pair_columns, pair_count, pair_numbers, pair_rows, row_in}
use Rattle.record_rows.specs.ReadPairs.{HeldPairs, laid_over, pairs_room, rows_of}
use Rattle.record_rows.proofs.HeaderLength.{header-good}
use Rattle.record_rows.proofs.Bounds.{AllEnded, all-ended, cost, lines-inside, pairs-cost}

-- the pairs behind group one
records-cost : (f : Form) → 2 ≤ f.address_length → (at : ℕ) (ls : List Line) → AllEnded ls → cost (records true f at ls).pairs ≤ taken ls
unfolding records taken pair_count content_bytes all_fragments
records-cost f low at [] h = omega arith
records-cost f low at (l ∷ ls) h = go (entry_step true f at l) (records true f (at + width l) ls) (pairs true f at (l ∷ ls)) (records-cost f low (at + width l) ls h.1) (pairs-cost f low at (l ∷ ls) h)
  where
    go : (x : Step Entry) (rest : Records) (two : List (Taken Pair)) → cost rest.pairs ≤ taken ls → cost two ≤ width l + taken ls → cost (both x rest two).pairs ≤ width l + taken ls
    go stops rest two i j = j
    go (last t) rest two i j = omega arith
    go (goes t) rest two i j = omega arith

-- a text of so many bytes
pub no-more-than-its-bytes : (text : List ℕ) (p : Parsed) → parsed true text ≡ fine p → cost p.records.pairs ≤ length text
unfolding opened
no-more-than-its-bytes text p e =
    let o = opens text p e in
    let at = o.h.next + suc o.e in
    let ls = lines (drop at text) in
    let k : cost (opened o.h o.e text).records.pairs ≤ taken ls = records-cost o.h.form (header-good text o.h o.is-head).0 at ls (all-ended (drop at text)) in
    rw (← o.same) (omega (arith, k, lines-inside (drop at text), length-drop at text))

-- the bounds
pub record Few (ps : List (Taken Pair)) : Type 0 where
  pub pairs : pair_count ps ≤ most_pairs
  pub content : length (content_bytes ps) ≤ most_content
  pub fragments : length (all_fragments ps) ≤ most_fragments

pub few-records : (b : Lent) (text : List ℕ) (r : Read) → read true b text ≡ fine r → Few r.parsed.records.pairs
unfolding allowed
few-records b text r e =
    let w = what-was-read true b text r e in
    let one = passed (lent_room b) _ 1 0 w.passes w.allows in
    let two = passed (leb (length text) 65536) _ 2 0 w.passes one.1 in
    let short = leb-true (length text) 65536 two.0 in
    let k = no-more-than-its-bytes text r.parsed w.parses in
    record { pairs = omega (arith, k, short); content = omega (arith, k, short); fragments = omega (arith, k, short) }

-- how long the rows are
seven-numbers : (place b k : ℕ) (x : Pair) → length (row_in place b k x) ≡ pair_columns * count_in x
unfolding pair_numbers
seven-numbers place b k skipped = refl
seven-numbers place b k (placed c r) = refl

pub pair-rows-length : (b k : ℕ) (ps : List (Taken Pair)) → length (pair_rows b k ps) ≡ pair_columns * pair_count ps
unfolding pair_rows pair_count
pair-rows-length b k [] = refl
pair-rows-length b k (p ∷ ps) =
    simp length-append
    (omega (arith, seven-numbers p.place b k p.body, pair-rows-length (b + length (content_in p.body)) (k + length (fragments_of p.body)) ps))

pub fragment-rows-length : (ps : List (Taken Pair)) → length (fragment_rows ps) ≡ length (all_fragments ps) * fragment_columns
unfolding fragment_numbers
fragment-rows-length ps = flat-length fragment_numbers 3 (λ f. refl) (all_fragments ps)

-- rows that fit
pub record RowsFit (old : HeldPairs) (ps : List (Taken Pair)) : Type 0 where
  pub pairs : length (pair_rows 0 0 ps) ≤ length old.pairs
  pub content : length (content_bytes ps) ≤ length old.content
  pub fragments : length (fragment_rows ps) ≤ length old.fragments

split : (s t : Bool) → (s && t) ≡ true → (s ≡ true) × (t ≡ true)
split true true e = (refl, refl)
split true false e = absurd (false≢true e)
split false t e = absurd (false≢true e)

pub rows_fit : (old : HeldPairs) (ps : List (Taken Pair)) → pairs_room old ≡ true → Few ps → RowsFit old ps
unfolding pairs_room
rows_fit old ps e w =
    let one = split (leb (most_pairs * pair_columns) (length old.pairs) && leb most_content (length old.content)) (leb (most_fragments * fragment_columns) (length old.fragments)) e in
    let two = split (leb (most_pairs * pair_columns) (length old.pairs)) (leb most_content (length old.content)) one.0 in
    let p = leb-true (most_pairs * pair_columns) (length old.pairs) two.0 in
    let c = leb-true most_content (length old.content) two.1 in
    let f = leb-true (most_fragments * fragment_columns) (length old.fragments) one.1 in
    record {
      pairs = omega (arith, p, w.pairs, pair-rows-length 0 0 ps);
      content = omega (arith, c, w.content);
      fragments = omega (arith, f, w.fragments, fragment-rows-length ps);
    }

-- so no lent buffer grows
over-length : (rows old : List ℕ) → length rows ≤ length old → length (over rows old) ≡ length old
unfolding over
over-length rows old h = simp (length-append, length-drop) (omega arith)

-- which buffers are lent does not matter, where they have room
pub whichever-buffers : (ended : Bool) (b c : Lent) (text : List ℕ) → lent_room b ≡ true → lent_room c ≡ true → read ended b text ≡ read ended c text
unfolding read allowed
whichever-buffers ended b c text h k = rw (h, k)
