use Rattle.kept_sizes.proofs.KeptSizes.{summing}
use Rattle.kept_sizes.proofs.sizes_in.Goals as goal

pub loop-j-init : goal.loop-j-init
loop-j-init c = search summing

pub loop-j-preserved : goal.loop-j-preserved
loop-j-preserved c = search summing

pub returns : goal.returns
returns c = search summing
