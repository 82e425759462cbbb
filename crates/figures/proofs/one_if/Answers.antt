use Rattle.figures.proofs.Laws.{one}
use Rattle.figures.proofs.one_if.Goals as goal

pub returns-then-class_number-class : goal.returns-then-class_number-class
returns-then-class_number-class c = search one

pub returns-else-class_number-class : goal.returns-else-class_number-class
returns-else-class_number-class c = search one
