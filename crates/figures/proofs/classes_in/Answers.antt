use Rattle.figures.proofs.Laws.{classes}
use Rattle.figures.proofs.classes_in.Goals as goal

pub returns : goal.returns
returns c = search classes
