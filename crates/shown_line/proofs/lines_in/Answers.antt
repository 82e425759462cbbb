use Rattle.shown_line.proofs.Laws.{counting}
use Rattle.shown_line.proofs.lines_in.Goals as goal

pub loop-byte-preserved : goal.loop-byte-preserved
loop-byte-preserved c = search counting

pub returns : goal.returns
returns c = search counting
