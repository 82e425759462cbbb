use Rattle.position_changes.proofs.Cells.{walk-fits, wholes}
use Rattle.position_changes.proofs.positions.Goals as goal

pub paired_masks-requires : goal.paired_masks-requires
paired_masks-requires c = search wholes

pub returns-then-not-paired_masks : goal.returns-then-not-paired_masks
returns-then-not-paired_masks c = search wholes

pub paired_masks-requires-2 : goal.paired_masks-requires-2
paired_masks-requires-2 c = search wholes

pub returns-then-not-paired_masks-2 : goal.returns-then-not-paired_masks-2
returns-then-not-paired_masks-2 c = search wholes

pub returns-then-n-gt536870912 : goal.returns-then-n-gt536870912
returns-then-n-gt536870912 c = search wholes

pub walk-requires : goal.walk-requires
walk-requires c = walk-fits _ _ _ _ c.paired_masks.ensures (search wholes) c.paired_masks-2.ensures (search wholes) c.if-n-gt536870912.false

pub shape_of-list : goal.shape_of-list
shape_of-list c = search wholes

pub returns : goal.returns
returns c = search wholes
