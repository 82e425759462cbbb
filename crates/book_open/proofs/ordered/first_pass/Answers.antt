use Rattle.book_open.proofs.Laws.{first-passing}
use Rattle.book_open.proofs.ordered.first_pass.Goals as goal

pub loop-i-preserved : goal.loop-i-preserved
loop-i-preserved c = search first-passing

pub returns-then-not-row_fits : goal.returns-then-not-row_fits
returns-then-not-row_fits c = search first-passing

pub returns : goal.returns
returns c = search first-passing
