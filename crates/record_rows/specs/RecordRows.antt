-- The rows of numbers that stand for T and R records. They lie in three buffers: a row for each pair, all content bytes, a row for each fragment.
-- Assumes nothing.
use Rattle.std.specs.Prelude.{ℕ, ◌+◌, List, [], ◌++◌, ◌∷◌, length}
use Rattle.format.specs.Lists.{flat}
use Rattle.format.specs.Pairs.{Content, Fragment, Pair, Relocation, placed, skipped}
use Rattle.format.specs.Records.{Taken}

-- numbers in a row
abbrev pub pair_columns : ℕ
pair_columns = 7

abbrev pub fragment_columns : ℕ
fragment_columns = 3

-- how many pairs, content bytes and fragments a text of 65,536 bytes can have
abbrev pub most_pairs : ℕ
most_pairs = 4096

abbrev pub most_content : ℕ
most_content = 32768

abbrev pub most_fragments : ℕ
most_fragments = 8192

-- mode, entry, index
unfoldable pub fragment_numbers : Fragment → List ℕ
fragment_numbers f = f.mode ∷ f.entry ∷ f.index ∷ []

-- the T's place, address, area's index, first content byte and how many, first fragment and how many
unfoldable pub pair_numbers : (place byte fragment : ℕ) → Content → Relocation → List ℕ
pair_numbers place b k c r = place ∷ c.address ∷ r.area ∷ b ∷ length c.bytes ∷ k ∷ length r.fragments ∷ []

-- what a pair has: a T and P pair has no row
abbrev pub content_in : Pair → List ℕ
content_in skipped = []
content_in (placed c r) = c.bytes

abbrev pub fragments_of : Pair → List Fragment
fragments_of skipped = []
fragments_of (placed c r) = r.fragments

abbrev pub count_in : Pair → ℕ
count_in skipped = 0
count_in (placed c r) = 1

abbrev pub row_in : (place byte fragment : ℕ) → Pair → List ℕ
row_in place b k skipped = []
row_in place b k (placed c r) = pair_numbers place b k c r

-- all content bytes, one pair's behind the other's
unfoldable pub content_bytes : List (Taken Pair) → List ℕ
content_bytes [] = []
content_bytes (p ∷ ps) = content_in p.body ++ content_bytes ps

-- all fragments
unfoldable pub all_fragments : List (Taken Pair) → List Fragment
all_fragments [] = []
all_fragments (p ∷ ps) = fragments_of p.body ++ all_fragments ps

-- the rows of all fragments
abbrev pub fragment_rows : List (Taken Pair) → List ℕ
fragment_rows ps = flat fragment_numbers (all_fragments ps)

-- how many T and R records there are
unfoldable pub pair_count : List (Taken Pair) → ℕ
pair_count [] = 0
pair_count (p ∷ ps) = count_in p.body + pair_count ps

-- the rows of all pairs, where so many content bytes and fragments stand before theirs
unfoldable pub pair_rows : (byte fragment : ℕ) → List (Taken Pair) → List ℕ
pair_rows b k [] = []
pair_rows b k (p ∷ ps) = row_in p.place b k p.body ++ pair_rows (b + length (content_in p.body)) (k + length (fragments_of p.body)) ps
