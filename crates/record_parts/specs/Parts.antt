-- The T and R records that rows of numbers stand for. Where a record ends is not kept, and counts as 0.
-- Assumes nothing.
use Rattle.std.specs.Prelude.{ℕ, ◌+◌, ◌*◌, List, [], ◌∷◌, drop, get_or, take}
use Rattle.format.specs.Pairs.{Fragment, Pair, placed, skipped}
use Rattle.format.specs.Records.{Taken}
use Rattle.laws.specs.Rows.{from, fragment}
use Rattle.record_rows.specs.RecordRows.{fragment_columns, pair_columns}

-- the i-th fragment: mode, entry, index
unfoldable pub fragment_from : List ℕ → ℕ → Fragment
fragment_from rows i = fragment (get_or rows (fragment_columns * i) 0) (get_or rows (fragment_columns * i + 1) 0) (get_or rows (fragment_columns * i + 2) 0)

-- the i-th pair: the T's place, address, area's index, first content byte and how many, first fragment and how many
unfoldable pub pair_from : (pairs content fragments : List ℕ) → ℕ → Taken Pair
pair_from ps bs fs i = record {
  place = get_or ps (pair_columns * i) 0;
  end = 0;
  body = placed
      (record { address = get_or ps (pair_columns * i + 1) 0; bytes = take (get_or ps (pair_columns * i + 4) 0) (drop (get_or ps (pair_columns * i + 3) 0) bs) })
      (record { area = get_or ps (pair_columns * i + 2) 0; fragments = from (fragment_from fs) (get_or ps (pair_columns * i + 5) 0) (get_or ps (pair_columns * i + 6) 0) });
}

unfoldable pub pairs_in : (pairs content fragments : List ℕ) → ℕ → List (Taken Pair)
pairs_in ps bs fs n = from (pair_from ps bs fs) 0 n

-- the T and R records among all pairs, without their ends
abbrev pub placed_in : ℕ → Pair → List (Taken Pair) → List (Taken Pair)
placed_in place skipped rest = rest
placed_in place (placed c r) rest = record { place = place; end = 0; body = placed c r } ∷ rest

unfoldable pub placed_of : List (Taken Pair) → List (Taken Pair)
placed_of [] = []
placed_of (p ∷ ps) = placed_in p.place p.body (placed_of ps)
