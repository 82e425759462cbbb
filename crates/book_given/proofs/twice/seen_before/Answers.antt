use Rattle.book_given.proofs.Pool.{seeing}
use Rattle.book_given.proofs.twice.seen_before.Goals as goal

pub loop-i-init : goal.loop-i-init
loop-i-init c = search seeing

pub loop-i-preserved : goal.loop-i-preserved
loop-i-preserved c = search seeing

pub returns-then-is_eq : goal.returns-then-is_eq
returns-then-is_eq c = search seeing
