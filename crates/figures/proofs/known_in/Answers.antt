use Rattle.figures.proofs.Laws.{adding}
use Rattle.figures.proofs.known_in.Goals as goal

pub loop-j-init : goal.loop-j-init
loop-j-init c = search adding

pub loop-j-preserved : goal.loop-j-preserved
loop-j-preserved c = search adding

pub returns : goal.returns
returns c = search adding
