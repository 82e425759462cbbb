use Rattle.name_index.proofs.Laws.{searches}
use Rattle.name_index.proofs.find.named.Goals as goal

pub returns-then-not-is_empty : goal.returns-then-not-is_empty
returns-then-not-is_empty c = search searches

pub returns-in-Some : goal.returns-in-Some
returns-in-Some c = search searches

pub returns-in-None : goal.returns-in-None
returns-in-None c = search searches
