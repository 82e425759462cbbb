use Rattle.figures.proofs.Laws.{counting}
use Rattle.figures.proofs.count.Goals as goal

pub loop-j-init : goal.loop-j-init
loop-j-init c = search counting

pub loop-j-preserved : goal.loop-j-preserved
loop-j-preserved c = search counting

pub returns : goal.returns
returns c = search counting
