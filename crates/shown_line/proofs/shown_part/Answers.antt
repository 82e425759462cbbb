use Rattle.shown_line.proofs.Laws.{windows}
use Rattle.shown_line.proofs.shown_part.Goals as goal

pub returns : goal.returns
returns c = search windows
