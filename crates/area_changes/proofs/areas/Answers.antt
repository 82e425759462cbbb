use Rattle.area_changes.proofs.Pairs.{takes_all, wholes}
use Rattle.area_changes.proofs.areas.Goals as goal

pub walk-requires : goal.walk-requires
walk-requires c = takes_all _ _ _ _ _ _ _ _ c.walkable.ensures c.if-walkable.true

pub returns : goal.returns
returns c = search wholes
