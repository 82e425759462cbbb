use Rattle.change_rows.proofs.Room.{masks}
use Rattle.change_rows.proofs.limits.paired_masks.Goals as goal

pub returns-then-values-gt-IMAGE_ROOM : goal.returns-then-values-gt-IMAGE_ROOM
returns-then-values-gt-IMAGE_ROOM c = search masks

pub returns : goal.returns
returns c = search masks
