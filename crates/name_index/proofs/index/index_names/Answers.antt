use Rattle.name_index.proofs.Laws.{notes}
use Rattle.name_index.proofs.index.index_names.Goals as goal

pub returns-then-n-gt65536 : goal.returns-then-n-gt65536
returns-then-n-gt65536 c = search notes

pub returns : goal.returns
returns c = search notes
