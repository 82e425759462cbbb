use Rattle.way_in.proofs.Laws.{highs}
use Rattle.way_in.proofs.first_high.Goals as goal

pub highest-requires : goal.highest-requires
highest-requires c = search highs

pub returns-then-highest-lt-HIGH : goal.returns-then-highest-lt-HIGH
returns-then-highest-lt-HIGH c = search highs

pub find_high-requires : goal.find_high-requires
find_high-requires c = search highs

pub returns : goal.returns
returns c = search highs
