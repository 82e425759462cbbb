use Rattle.name_index.proofs.Laws.{notes}
use Rattle.name_index.proofs.index.note_all.Goals as goal

pub loop-j-preserved : goal.loop-j-preserved
loop-j-preserved c = search notes

pub returns : goal.returns
returns c = search notes
