use Rattle.fixups.proofs.EntryLaws.{between}
use Rattle.fixups.proofs.walk.entry_rows.Goals as goal

pub returns-then-e-next : goal.returns-then-e-next
returns-then-e-next c = search between

pub fixups_at-requires : goal.fixups_at-requires
fixups_at-requires c = search between

pub shape_of-rows : goal.shape_of-rows
shape_of-rows c = search between

pub returns : goal.returns
returns c = search between
