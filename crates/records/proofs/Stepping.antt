-- Storing goes on: a skipped pair adds nothing, a placed one its row, its bytes and its fragments' rows; and at the end all is stored.
-- Assumes nothing.
use Prim.Native.Nat.{ℕ, ◌*◌, ◌+◌, ◌≤◌}
use mathlib.Core.Path.{◌≡◌, ap, refl, sym, ◌∙◌}
use mathlib.Core.List.{List, [], append-nil, ◌++◌, ◌∷◌}
use native.Mathlib.Omega.{arith}
use native.Mathlib.Nat.{add-zero}
use lib.ListN.{length, length-append, take}
use lib.Seq.{sets}
use Rattle.format.specs.Lists.{flat}
use Rattle.format.specs.Pairs.{Content, Fragment, Pair, Relocation, placed, skipped}
use Rattle.format.specs.Records.{Taken}
use Rattle.laws.proofs.Room.{flat_append, flat-length}
use Rattle.cells.proofs.Laws.{sets-append}
use Rattle.sites.specs.Columns.{fragments_in}
use Rattle.record_rows.specs.RecordRows.{all_fragments, content_bytes, fragment_columns, fragment_numbers, fragment_rows, pair_columns, pair_count, pair_numbers, pair_rows}
use Rattle.record_rows.specs.ReadPairs.{HeldPairs}
use Rattle.pair_rows.specs.Rows.{StoredOne, counted}
use Rattle.records.specs.Storing.{Onward, Stored}
use Rattle.pair_rows.specs.declared.PairCounts.{PairCounts}
use Rattle.pair_rows.specs.declared.PairLine.{PairLine}

pub stay : (ps : List (Taken Pair)) (n : PairCounts) (h : HeldPairs) → Onward ps n h ps n h
stay ps n h = record { pairs = refl; content = refl; fragments = refl; pair-count = refl; content-count = refl; fragment-count = refl }

pub and-on : {ps : List (Taken Pair)} {n : PairCounts} {h : HeldPairs} {ps' : List (Taken Pair)} {n' : PairCounts} {h' : HeldPairs} {ps'' : List (Taken Pair)} {n'' : PairCounts} {h'' : HeldPairs}
    → Onward ps n h ps' n' h' → Onward ps' n' h' ps'' n'' h'' → Onward ps n h ps'' n'' h''
and-on v w = record {
  pairs = v.pairs ∙ w.pairs;
  content = v.content ∙ w.content;
  fragments = v.fragments ∙ w.fragments;
  pair-count = v.pair-count ∙ w.pair-count;
  content-count = v.content-count ∙ w.content-count;
  fragment-count = v.fragment-count ∙ w.fragment-count;
}

-- a T and P pair
pub pass-by : (p end : ℕ) (ps : List (Taken Pair)) (n : PairCounts) (h : HeldPairs) → Onward (record { place = p; end = end; body = skipped } ∷ ps) n h ps n h
unfolding pair_rows content_bytes all_fragments pair_count
pass-by p end ps n h = record {
  pairs = rw (add-zero n.content, add-zero n.fragments);
  content = refl;
  fragments = refl;
  pair-count = omega arith;
  content-count = refl;
  fragment-count = refl;
}

-- a T and R pair that the code has read and stored
pub record LineIs (l : PairLine) (bytes ms es xs : List ℕ) (p : ℕ) (c : Content) (r : Relocation) : Type 0 where
  pub place : l.place ≡ p
  pub address : l.address ≡ c.address
  pub area : l.area ≡ r.area
  pub count : l.bytes ≡ length c.bytes
  pub few : l.fragments ≡ length r.fragments
  pub content : take l.bytes bytes ≡ c.bytes
  pub fragments : fragments_in ms es xs l.fragments ≡ r.fragments

three-numbers : (f : Fragment) → length (fragment_numbers f) ≡ 3
unfolding fragment_numbers
three-numbers f = refl

module _ (p end : ℕ) (c : Content) (r : Relocation) (ps : List (Taken Pair)) {l : PairLine} {bytes ms es xs : List ℕ} (w : LineIs l bytes ms es xs p c r)
    {n n' : PairCounts} {h h' : HeldPairs} (v : StoredOne l n bytes ms es xs h n' h') where
  abbrev here : Taken Pair
  here = record { place = p; end = end; body = placed c r }

  row_is : h'.pairs ≡ sets h.pairs (7 * n.pairs) (pair_numbers p n.content n.fragments c r)
  unfolding pair_numbers
  row_is = v.pairs ∙ rw (w.place, w.address, w.area, w.count, w.few)

  bytes-are : h'.content ≡ sets h.content n.content c.bytes
  bytes-are = v.content ∙ rw w.content

  fragments-are : h'.fragments ≡ sets h.fragments (3 * n.fragments) (flat fragment_numbers r.fragments)
  fragments-are = v.fragments ∙ rw w.fragments

  counts-are : n' ≡ record { pairs = n.pairs + 1; content = n.content + length c.bytes; fragments = n.fragments + length r.fragments }
  counts-are = v.counts ∙ rw (w.count, w.few)

  pub store-on : Onward (here ∷ ps) n h ps n' h'
  unfolding pair_rows pair_numbers content_bytes all_fragments pair_count
  store-on =
      let b = n.content + length c.bytes in
      let k = n.fragments + length r.fragments in
      let j : 7 * n.pairs + 7 ≡ 7 * (n.pairs + 1) = omega arith in
      let i : 3 * n.fragments + length (flat fragment_numbers r.fragments) ≡ 3 * k = omega (arith, flat-length fragment_numbers 3 three-numbers r.fragments) in
      rw counts-are (record {
        pairs = sets-append h.pairs (7 * n.pairs) (pair_numbers p n.content n.fragments c r) (pair_rows b k ps) ∙ rw (j, ← row_is);
        content = sets-append h.content n.content c.bytes (content_bytes ps) ∙ rw (← bytes-are);
        fragments = ap (sets h.fragments (3 * n.fragments)) (flat_append fragment_numbers r.fragments (all_fragments ps))
            ∙ (sets-append h.fragments (3 * n.fragments) (flat fragment_numbers r.fragments) (flat fragment_numbers (all_fragments ps)) ∙ rw (i, ← fragments-are));
        pair-count = omega arith;
        content-count = simp length-append (omega arith);
        fragment-count = simp length-append (omega arith);
      })

-- nothing is left
pub all-stored : (ps : List (Taken Pair)) (h : HeldPairs) (n' : PairCounts) (h' : HeldPairs) → Onward ps (record { pairs = 0; content = 0; fragments = 0 }) h [] n' h' → Stored ps h n' h'
unfolding pair_rows content_bytes all_fragments pair_count flat
all-stored ps h n' h' w = record {
  pairs = sym w.pairs;
  content = sym w.content;
  fragments = sym w.fragments;
  pair-count = omega (arith, w.pair-count);
  content-count = omega (arith, w.content-count);
  fragment-count = omega (arith, w.fragment-count);
}
