use Rattle.book_given.proofs.Pool.{pooling}
use Rattle.book_given.proofs.given.in_pool.Goals as goal

pub returns-then-pool-wide : goal.returns-then-pool-wide
returns-then-pool-wide c = search pooling

pub returns-then-pool-wide-2 : goal.returns-then-pool-wide-2
returns-then-pool-wide-2 c = search pooling

pub returns : goal.returns
returns c = search pooling
