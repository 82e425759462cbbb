use Rattle.shown_line.proofs.Laws.{putting}
use Rattle.shown_line.proofs.put_safe.Goals as goal

pub loop-byte-preserved : goal.loop-byte-preserved
loop-byte-preserved c = search putting
