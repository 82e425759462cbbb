use Rattle.layout.proofs.Laws.{outs}
use Rattle.layout.proofs.lay_tables.Goals as goal

pub returns : goal.returns
returns c = search outs
