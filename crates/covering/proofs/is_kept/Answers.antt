use Rattle.covering.proofs.Laws.{keeping}
use Rattle.covering.proofs.is_kept.Goals as goal

pub loop-i-preserved : goal.loop-i-preserved
loop-i-preserved c = search keeping

pub returns : goal.returns
returns c = search keeping
