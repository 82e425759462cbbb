use Rattle.position_changes.proofs.Cells.{adds}
use Rattle.position_changes.proofs.add.Goals as goal

pub returns : goal.returns
returns c = search adds
