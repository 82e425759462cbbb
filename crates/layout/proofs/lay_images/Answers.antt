use Rattle.layout.proofs.Laws.{outs}
use Rattle.layout.proofs.lay_images.Goals as goal

pub returns : goal.returns
returns c = search outs
