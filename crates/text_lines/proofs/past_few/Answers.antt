use Rattle.text_lines.proofs.Laws.{few}
use Rattle.text_lines.proofs.past_few.Goals as goal

pub loop-j-preserved : goal.loop-j-preserved
loop-j-preserved c = search few
