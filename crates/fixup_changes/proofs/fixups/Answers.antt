use Rattle.fixup_changes.proofs.Lacks.{wholes}
use Rattle.change_rows.proofs.Room.{few-all}
use Rattle.fixup_changes.proofs.fixups.Goals as goal

pub few-requires : goal.few-requires
few-requires c = search wholes

pub walk-requires : goal.walk-requires
walk-requires c = few-all _ _ _ c.few.ensures c.if-few.true

pub shape_of-list-then-few : goal.shape_of-list-then-few
shape_of-list-then-few c = search wholes

pub returns-then-few : goal.returns-then-few
returns-then-few c = search wholes

pub returns : goal.returns
returns c = search wholes
