use Rattle.usual_fragment.proofs.Laws.{usual}
use Rattle.usual_fragment.proofs.usual_fragment.Goals as goal

pub returns-then-m-lt240 : goal.returns-then-m-lt240
returns-then-m-lt240 c = search usual

pub returns : goal.returns
returns c = search usual
