use Rattle.pair_line.proofs.Laws.Usual.{letters}
use Rattle.pair_line.proofs.usual.usual_letter.Goals as goal

pub returns-then-t-lt3 : goal.returns-then-t-lt3
returns-then-t-lt3 c = search letters

pub bounds-t-0 : goal.bounds-t-0
bounds-t-0 c = search letters

pub returns-then-t-letter : goal.returns-then-t-letter
returns-then-t-letter c = search letters

pub bounds-t-1 : goal.bounds-t-1
bounds-t-1 c = search letters

pub returns-then-t-ne32 : goal.returns-then-t-ne32
returns-then-t-ne32 c = search letters

pub bounds-t-2 : goal.bounds-t-2
bounds-t-2 c = search letters

pub returns : goal.returns
returns c = search letters
