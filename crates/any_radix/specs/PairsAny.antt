-- The T and R records of a text whose header may be of every radix, as rows in three lent buffers, and their contract.
-- Assumes nothing.
use Rattle.std.specs.Prelude.{ℕ, ◌≡◌, List}
use Rattle.format.specs.Lists.{pick}
use Rattle.record_rows.specs.ReadPairs.{HeldPairs, PairsAnswer, PairsReading, laid_over, nothing, pairs_from, pairs_room, roomy}
use Rattle.any_radix.specs.ReadAny.{read_any}

-- the records of a text, by the ended reading that takes a header of every radix
unfoldable pub read_pairs_any : HeldPairs → List ℕ → PairsReading
read_pairs_any old text = pick (pairs_room old) (pairs_from (read_any roomy text)) (nothing 1 0)

-- the contract: the answer, and each buffer's rows over what it held
pub record PairsMeetAny (text : List ℕ) (old : HeldPairs) (answer : PairsAnswer) (new : HeldPairs) : Type 0 where
  pub says : answer ≡ (read_pairs_any old text).answer
  pub held : new ≡ laid_over (read_pairs_any old text).rows old
