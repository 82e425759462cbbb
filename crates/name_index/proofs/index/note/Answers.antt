use Rattle.name_index.proofs.Laws.{notes}
use Rattle.name_index.proofs.index.note.Goals as goal

pub returns-then-at-eq0 : goal.returns-then-at-eq0
returns-then-at-eq0 c = search notes

pub returns-else-at-eq0 : goal.returns-else-at-eq0
returns-else-at-eq0 c = search notes
