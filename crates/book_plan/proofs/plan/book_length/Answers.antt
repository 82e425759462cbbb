use Rattle.book_plan.proofs.Sums.{sums}
use Rattle.book_plan.proofs.plan.book_length.Goals as goal

pub returns-then-room-to : goal.returns-then-room-to
returns-then-room-to c = search sums

pub loop-i-preserved : goal.loop-i-preserved
loop-i-preserved c = search sums

pub returns-then-room-to-2 : goal.returns-then-room-to-2
returns-then-room-to-2 c = search sums

pub returns : goal.returns
returns c = search sums
