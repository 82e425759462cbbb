use Rattle.steps.proofs.PairLines.{skipping}
use Rattle.steps.proofs.pair.any_line.Goals as goal

pub returns-then-byte_at-letter : goal.returns-then-byte_at-letter
returns-then-byte_at-letter c = search skipping

pub returns-else-byte_at-letter : goal.returns-else-byte_at-letter
returns-else-byte_at-letter c = search skipping
