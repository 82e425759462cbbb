use Rattle.images.proofs.CountLaws.{counting}
use Rattle.images.proofs.count.fill_masks.Goals as goal

pub loop-i-preserved : goal.loop-i-preserved
loop-i-preserved c = search counting
