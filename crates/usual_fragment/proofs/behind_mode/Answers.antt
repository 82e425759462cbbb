use Rattle.usual_fragment.proofs.Laws.{tails}
use Rattle.usual_fragment.proofs.behind_mode.Goals as goal

pub returns : goal.returns
returns c = search tails
