use Rattle.entry_sort.proofs.Laws.{letters}
use Rattle.entry_sort.proofs.letter_of.Goals as goal

pub returns-in-65 : goal.returns-in-65
returns-in-65 c = search letters

pub returns-in-83 : goal.returns-in-83
returns-in-83 c = search letters

pub returns-in_default : goal.returns-in_default
returns-in_default c = search letters
