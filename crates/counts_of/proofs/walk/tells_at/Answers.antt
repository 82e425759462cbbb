use Rattle.counts_of.proofs.Laws.Line.{lines}
use Rattle.counts_of.proofs.walk.tells_at.Goals as goal

pub returns-then-t-p : goal.returns-then-t-p
returns-then-t-p c = search lines

pub returns : goal.returns
returns c = search lines
