use Rattle.book_open.proofs.Laws.{second-passing}
use Rattle.book_open.proofs.closed.second_pass.Goals as goal

pub loop-i-preserved : goal.loop-i-preserved
loop-i-preserved c = search second-passing

pub returns-then-not-row_meets : goal.returns-then-not-row_meets
returns-then-not-row_meets c = search second-passing

pub returns : goal.returns
returns c = search second-passing
