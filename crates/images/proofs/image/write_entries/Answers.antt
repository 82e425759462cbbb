use Rattle.images.proofs.ImageLaws.{imaging}
use Rattle.images.proofs.image.write_entries.Goals as goal

pub loop-e-init : goal.loop-e-init
loop-e-init c = search imaging

pub returns-then-site-p : goal.returns-then-site-p
returns-then-site-p c = search imaging

pub loop-e-preserved : goal.loop-e-preserved
loop-e-preserved c = search imaging

pub returns : goal.returns
returns c = search imaging
