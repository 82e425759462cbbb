use Rattle.h_line.proofs.Laws.{lasts}
use Rattle.h_line.proofs.last_word.Goals as goal

pub returns-then-a-at : goal.returns-then-a-at
returns-then-a-at c = search lasts

pub returns : goal.returns
returns c = search lasts
