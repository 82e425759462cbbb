use Rattle.book_given.proofs.Pool.{inside}
use Rattle.book_given.proofs.given.first_out.Goals as goal

pub loop-i-preserved : goal.loop-i-preserved
loop-i-preserved c = search inside

pub returns-then-not-in_pool : goal.returns-then-not-in_pool
returns-then-not-in_pool c = search inside

pub returns : goal.returns
returns c = search inside
