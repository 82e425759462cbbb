use Rattle.area_changes.proofs.Pairs.{walkables}
use Rattle.area_changes.proofs.walkable.Goals as goal

pub returns-then-not-paired_masks : goal.returns-then-not-paired_masks
returns-then-not-paired_masks c = search walkables

pub returns-then-not-paired_masks-2 : goal.returns-then-not-paired_masks-2
returns-then-not-paired_masks-2 c = search walkables

pub returns-then-older-gt64 : goal.returns-then-older-gt64
returns-then-older-gt64 c = search walkables

pub returns-then-newer-gt64 : goal.returns-then-newer-gt64
returns-then-newer-gt64 c = search walkables

pub returns : goal.returns
returns c = search walkables
