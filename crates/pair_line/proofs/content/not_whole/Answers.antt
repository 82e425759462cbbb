use Rattle.pair_line.proofs.Laws.Content.{wholes}
use Rattle.pair_line.proofs.content.not_whole.Goals as goal

pub returns : goal.returns
returns c = search wholes
