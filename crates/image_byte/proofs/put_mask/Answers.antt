use Rattle.image_byte.proofs.CountLaws.{counting}
use Rattle.image_byte.proofs.put_mask.Goals as goal

pub returns : goal.returns
returns c = search counting
