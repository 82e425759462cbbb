use Rattle.name_index.proofs.Laws.{notes}
use Rattle.name_index.proofs.index.note_symbol.Goals as goal

pub returns : goal.returns
returns c = search notes
