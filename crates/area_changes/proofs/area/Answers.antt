use Rattle.area_changes.proofs.Pairs.{areas}
use Rattle.area_changes.proofs.area.Goals as goal

pub returns-then-two-newer : goal.returns-then-two-newer
returns-then-two-newer c = search areas

pub returns-then-one-older : goal.returns-then-one-older
returns-then-one-older c = search areas

pub returns-then-two-newer-2 : goal.returns-then-two-newer-2
returns-then-two-newer-2 c = search areas

pub returns : goal.returns
returns c = search areas
