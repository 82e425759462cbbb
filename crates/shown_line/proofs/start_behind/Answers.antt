use Rattle.shown_line.proofs.Laws.{starting}
use Rattle.shown_line.proofs.start_behind.Goals as goal

pub loop-i-preserved : goal.loop-i-preserved
loop-i-preserved c = search starting

pub returns : goal.returns
returns c = search starting
