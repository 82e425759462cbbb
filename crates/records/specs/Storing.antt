-- Records stored pair by pair: what a pair adds, and what is left to store.
-- Assumes nothing.
use Rattle.std.specs.Prelude.{◌*◌, ◌+◌, ◌≡◌, List, length}
use Rattle.std.proofs.lemmas.List.Edits.{sets}
use Rattle.format.specs.Pairs.{Pair}
use Rattle.format.specs.Records.{Taken}
use Rattle.record_rows.specs.RecordRows.{all_fragments, content_bytes, fragment_columns, fragment_rows, pair_columns, pair_count, pair_rows}
use Rattle.record_rows.specs.ReadPairs.{HeldPairs}
use Rattle.pair_rows.specs.declared.PairCounts.{PairCounts}

-- storing these pairs from here comes to storing those from there
pub record Onward (ps : List (Taken Pair)) (n : PairCounts) (h : HeldPairs) (ps' : List (Taken Pair)) (n' : PairCounts) (h' : HeldPairs) : Type 0 where
  pub pairs : sets h.pairs (pair_columns * n.pairs) (pair_rows n.content n.fragments ps) ≡ sets h'.pairs (pair_columns * n'.pairs) (pair_rows n'.content n'.fragments ps')
  pub content : sets h.content n.content (content_bytes ps) ≡ sets h'.content n'.content (content_bytes ps')
  pub fragments : sets h.fragments (fragment_columns * n.fragments) (fragment_rows ps) ≡ sets h'.fragments (fragment_columns * n'.fragments) (fragment_rows ps')
  pub pair-count : n.pairs + pair_count ps ≡ n'.pairs + pair_count ps'
  pub content-count : n.content + length (content_bytes ps) ≡ n'.content + length (content_bytes ps')
  pub fragment-count : n.fragments + length (all_fragments ps) ≡ n'.fragments + length (all_fragments ps')

-- all are stored, from the start
pub record Stored (ps : List (Taken Pair)) (h : HeldPairs) (n : PairCounts) (h' : HeldPairs) : Type 0 where
  pub pairs : h'.pairs ≡ sets h.pairs 0 (pair_rows 0 0 ps)
  pub content : h'.content ≡ sets h.content 0 (content_bytes ps)
  pub fragments : h'.fragments ≡ sets h.fragments 0 (fragment_rows ps)
  pub pair-count : n.pairs ≡ pair_count ps
  pub content-count : n.content ≡ length (content_bytes ps)
  pub fragment-count : n.fragments ≡ length (all_fragments ps)
