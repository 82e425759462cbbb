-- A T and R pair's rows behind those of others, and the room that rows ask for.
-- Assumes nothing.
use Rattle.std.specs.Prelude.{ℕ, ◌*◌, ◌+◌, ◌≤◌, ◌≡◌, Bool, false, true, ◌&&◌, List, [], ◌∷◌, take, leb}
use Rattle.std.proofs.lemmas.List.Edits.{sets}
use Rattle.format.specs.Lists.{flat}
use Rattle.sites.specs.Columns.{fragments_in}
use Rattle.record_rows.specs.RecordRows.{fragment_columns, fragment_numbers, most_content, most_fragments, most_pairs, pair_columns}
use Rattle.record_rows.specs.ReadPairs.{HeldPairs}
use Rattle.pair_rows.specs.declared.PairCounts.{PairCounts}
use Rattle.pair_rows.specs.declared.PairLine.{PairLine}

-- what the three lent buffers hold
abbrev pub held : (pairs content fragments : List ℕ) → HeldPairs
held ps bs fs = record { pairs = ps; content = bs; fragments = fs }

-- how many there are with a pair more
abbrev pub counted : PairCounts → PairLine → PairCounts
counted n l = record { pairs = n.pairs + 1; content = n.content + l.bytes; fragments = n.fragments + l.fragments }

-- a pair's row
abbrev pub line_numbers : PairCounts → PairLine → List ℕ
line_numbers n l = l.place ∷ l.address ∷ l.area ∷ n.content ∷ l.bytes ∷ n.fragments ∷ l.fragments ∷ []

-- few enough to be counted in 32 bits
pub record Low (n : PairCounts) (l : PairLine) : Type 0 where
  pub pairs : n.pairs ≤ 65536
  pub content : n.content ≤ 16777216
  pub fragments : n.fragments ≤ 4194304
  pub place : l.place ≤ 65536
  pub bytes : l.bytes ≤ 256
  pub few : l.fragments ≤ 64

-- a pair stored behind so many others; its bytes and the columns of its fragments stand in what was lent
pub record StoredOne (l : PairLine) (n : PairCounts) (bytes ms es xs : List ℕ) (h : HeldPairs) (r : PairCounts) (h' : HeldPairs) : Type 0 where
  pub counts : r ≡ counted n l
  pub pairs : h'.pairs ≡ sets h.pairs (pair_columns * n.pairs) (line_numbers n l)
  pub content : h'.content ≡ sets h.content n.content (take l.bytes bytes)
  pub fragments : h'.fragments ≡ sets h.fragments (fragment_columns * n.fragments) (flat fragment_numbers (fragments_in ms es xs l.fragments))

-- the same as a test
unfoldable pub is_low : PairCounts → PairLine → Bool
is_low n l =
    leb n.pairs 65536
    && leb n.content 16777216
    && leb n.fragments 4194304
    && leb l.place 65536
    && leb l.bytes 256
    && leb l.fragments 64

-- where they cannot be counted, nothing is stored
abbrev pub Stores : Bool → PairLine → PairCounts → (bytes ms es xs : List ℕ) → HeldPairs → PairCounts → HeldPairs → Type 0
Stores true l n bytes ms es xs h r h' = StoredOne l n bytes ms es xs h r h'
Stores false l n bytes ms es xs h r h' = (r ≡ n) × (h' ≡ h)

-- 1: whether buffers of these lengths have room for their bounds
unfoldable pub room_for : (pairs content fragments : ℕ) → Bool
room_for p c f = leb (most_pairs * pair_columns) p && leb most_content c && leb (most_fragments * fragment_columns) f
