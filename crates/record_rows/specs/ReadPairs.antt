-- The T and R records of a text as rows in three lent buffers: refusal 1, the refusals of the ended reading, or how many there are and the rows.
-- Assumes nothing.
use Rattle.std.specs.Prelude.{ℕ, ◌*◌, ◌≡◌, Bool, true, ◌&&◌, List, [], length, leb}
use Rattle.format.specs.Lists.{over, pick}
use Rattle.format.specs.Outcome.{Outcome, fine, refused}
use Rattle.format.specs.Pairs.{Pair}
use Rattle.format.specs.Records.{Taken}
use Rattle.format.specs.Rows.{area_columns, fixup_columns, symbol_columns}
use Rattle.format.specs.Reading.{Lent, Read, read}
use Rattle.record_rows.specs.RecordRows.{all_fragments, content_bytes, fragment_columns, fragment_rows, most_content, most_fragments, most_pairs, pair_columns, pair_count, pair_rows}

-- what the three lent buffers hold: rows of pairs, content bytes, rows of fragments
pub record HeldPairs : Type 0 where
  pub pairs : List ℕ
  pub content : List ℕ
  pub fragments : List ℕ

-- 1: whether each has room for its bound
unfoldable pub pairs_room : HeldPairs → Bool
pairs_room h =
    leb (most_pairs * pair_columns) (length h.pairs)
    && leb most_content (length h.content)
    && leb (most_fragments * fragment_columns) (length h.fragments)

-- how many T and R pairs, content bytes and fragments there are
pub record PairCounts : Type 0 where
  pub pairs : ℕ
  pub content : ℕ
  pub fragments : ℕ

-- what is answered: a refusal with its number and place, or the counts
pub data PairsAnswer : Type 0 where
  refusal : (number place : ℕ) → PairsAnswer
  accepted : PairCounts → PairsAnswer

-- the answer, and what stands first in each lent buffer afterwards
pub record PairsReading : Type 0 where
  pub answer : PairsAnswer
  pub rows : HeldPairs

-- a refusal has no rows
abbrev pub nothing : (number place : ℕ) → PairsReading
nothing n p = record { answer = refusal n p; rows = record { pairs = []; content = []; fragments = [] } }

unfoldable pub counts_of : List (Taken Pair) → PairCounts
counts_of ps = record { pairs = pair_count ps; content = length (content_bytes ps); fragments = length (all_fragments ps) }

unfoldable pub rows_of : List (Taken Pair) → HeldPairs
rows_of ps = record { pairs = pair_rows 0 0 ps; content = content_bytes ps; fragments = fragment_rows ps }

abbrev pub pairs_from : Outcome Read → PairsReading
pairs_from (refused n p) = nothing n p
pairs_from (fine r) = record { answer = accepted (counts_of r.parsed.records.pairs); rows = rows_of r.parsed.records.pairs }

-- buffers for a reading that have room for their bounds
abbrev pub roomy : Lent
roomy = record { areas = 64 * area_columns; symbols = 1024 * symbol_columns; values = 65536; masks = 65536; fixups = 1024 * fixup_columns }

-- the records of a text, by the ended reading
unfoldable pub read_pairs : HeldPairs → List ℕ → PairsReading
read_pairs old text = pick (pairs_room old) (pairs_from (read true roomy text)) (nothing 1 0)

-- rows over what the buffers held
abbrev pub laid_over : HeldPairs → HeldPairs → HeldPairs
laid_over rows old = record { pairs = over rows.pairs old.pairs; content = over rows.content old.content; fragments = over rows.fragments old.fragments }

-- the contract: the answer, and each buffer's rows over what it held
pub record PairsMeet (text : List ℕ) (old : HeldPairs) (answer : PairsAnswer) (new : HeldPairs) : Type 0 where
  pub says : answer ≡ (read_pairs old text).answer
  pub held : new ≡ laid_over (read_pairs old text).rows old
