use Rattle.book.proofs.Laws.{comparing}
use Rattle.book_rows.proofs.Laws.{ordered_as}
use Rattle.book_rows.proofs.name.compare.Goals as goal

pub loop-i-init : goal.loop-i-init
loop-i-init c = search comparing

pub returns-then-b-i : goal.returns-then-b-i
returns-then-b-i c = search comparing

pub returns-then-x-y : goal.returns-then-x-y
returns-then-x-y c = search comparing

pub returns-then-y-x : goal.returns-then-y-x
returns-then-y-x c = search comparing

pub loop-i-preserved : goal.loop-i-preserved
loop-i-preserved c = search comparing

pub returns : goal.returns
returns c = rw c.cmp.ensures (ordered_as c.args.a.now c.args.b.now)
