use Rattle.usual_fragment.proofs.Laws.{spacing}
use Rattle.usual_fragment.proofs.spaced.Goals as goal

pub returns-then-t-p-ne32 : goal.returns-then-t-p-ne32
returns-then-t-p-ne32 c = search spacing

pub returns : goal.returns
returns c = search spacing
