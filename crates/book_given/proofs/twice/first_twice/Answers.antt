use Rattle.book_given.proofs.Pool.{differing}
use Rattle.book_given.proofs.twice.first_twice.Goals as goal

pub loop-k-init : goal.loop-k-init
loop-k-init c = search differing

pub returns-then-seen_before : goal.returns-then-seen_before
returns-then-seen_before c = search differing

pub loop-k-preserved : goal.loop-k-preserved
loop-k-preserved c = search differing

pub returns : goal.returns
returns c = search differing
