use Rattle.one_cell.proofs.CellLaws.{seeking}
use Rattle.one_cell.proofs.CellLaws.{seek-more}
use borrow.Author.Rules.{rules}
use Rattle.one_cell.proofs.seek.Goals as goal

pub returns-then-site-p : goal.returns-then-site-p
returns-then-site-p c = search seeking

pub returns-then-is_here : goal.returns-then-is_here
returns-then-is_here c = search seeking

pub loop-e-preserved : goal.loop-e-preserved
loop-e-preserved c = seek-more c.loop-e.invariant (search rules) (search rules) c.is_here.ensures (search rules) c.grows-p.ensures

pub returns : goal.returns
returns c = search seeking
