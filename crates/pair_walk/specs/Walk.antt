-- A walk over T and R pairs: where it is, and where it goes on when the pair there is stored.
-- Assumes nothing.
use Rattle.std.specs.Prelude.{ℕ, ◌≡◌, List}
use Rattle.record_rows.specs.ReadPairs.{HeldPairs}
use Rattle.pair_rows.specs.Rows.{Stores, is_low}
use Rattle.pair_rows.specs.declared.PairCounts.{PairCounts}
use Rattle.pair_rows.specs.declared.PairLine.{PairLine}
use Rattle.pair_walk.specs.declared.Seen.{Seen}
use Rattle.pair_walk.specs.declared.Walked.{Walked}

-- where the walk is
abbrev pub walked_to : ℕ → PairCounts → Walked
walked_to p n = record { next = p; counts = n }

-- a pair whose T stands at a place
abbrev pub line_of : (place : ℕ) → Seen → PairLine
line_of p s = record { place = p; address = s.address; area = s.area; bytes = s.bytes; fragments = s.fragments }

-- the walk goes on at a place, with a pair stored behind those before it, or none where they could not be counted
pub record WalksOn (g : Walked) (to : ℕ) (l : PairLine) (bytes ms es xs : List ℕ) (h : HeldPairs) (r : Walked) (h' : HeldPairs) : Type 0 where
  pub next : r.next ≡ to
  pub stores : Stores (is_low g.counts l) l g.counts bytes ms es xs h r.counts h'
