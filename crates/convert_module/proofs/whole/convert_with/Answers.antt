use Rattle.convert_module.proofs.WholeLaws.{convert-judged, wholes}
use Rattle.convert_module.proofs.whole.convert_with.Goals as goal

pub read_any-requires : goal.read_any-requires
read_any-requires c = search wholes

pub judge-requires : goal.judge-requires
judge-requires c = convert-judged c.requires c.read_any.ensures c.in-Ok.is

pub shape_of-areas-in-Err : goal.shape_of-areas-in-Err
shape_of-areas-in-Err c = search wholes

pub shape_of-symbols-in-Err : goal.shape_of-symbols-in-Err
shape_of-symbols-in-Err c = search wholes

pub shape_of-values-in-Err : goal.shape_of-values-in-Err
shape_of-values-in-Err c = search wholes

pub shape_of-masks-in-Err : goal.shape_of-masks-in-Err
shape_of-masks-in-Err c = search wholes

pub shape_of-fixups-in-Err : goal.shape_of-fixups-in-Err
shape_of-fixups-in-Err c = search wholes

pub returns-in-Err : goal.returns-in-Err
returns-in-Err c = search wholes

pub shape_of-areas-in-Ok : goal.shape_of-areas-in-Ok
shape_of-areas-in-Ok c = search wholes

pub shape_of-symbols-in-Ok : goal.shape_of-symbols-in-Ok
shape_of-symbols-in-Ok c = search wholes

pub shape_of-values-in-Ok : goal.shape_of-values-in-Ok
shape_of-values-in-Ok c = search wholes

pub shape_of-masks-in-Ok : goal.shape_of-masks-in-Ok
shape_of-masks-in-Ok c = search wholes

pub shape_of-fixups-in-Ok : goal.shape_of-fixups-in-Ok
shape_of-fixups-in-Ok c = search wholes

pub shape_of-out : goal.shape_of-out
shape_of-out c = search wholes

pub returns-in-Ok : goal.returns-in-Ok
returns-in-Ok c = search wholes
