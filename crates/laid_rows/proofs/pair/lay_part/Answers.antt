use Rattle.laid_rows.proofs.Laws.Pair.{parts}
use Rattle.laid_rows.proofs.pair.lay_part.Goals as goal

pub returns : goal.returns
returns c = search parts
