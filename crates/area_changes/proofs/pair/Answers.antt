use Rattle.area_changes.proofs.Pairs.{pair_is, pairs}
use Rattle.area_changes.proofs.pair.Goals as goal

pub returns : goal.returns
returns c =
    pair_is _ _ _ _ c.requires.0 c.requires.2 c.requires.1 c.requires.3 c.requires.6 c.requires.4 c.requires.5
    c.positions-behind.ensures c.fixups-middle.ensures c.fixups.ensures
