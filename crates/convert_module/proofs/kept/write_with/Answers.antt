use Rattle.convert_module.proofs.WriteLaws.{writes}
use Rattle.convert_module.proofs.kept.write_with.Goals as goal

pub read_any_pairs-requires : goal.read_any_pairs-requires
read_any_pairs-requires c = search writes

pub write_module-requires : goal.write_module-requires
write_module-requires c = search writes

pub as_written-requires : goal.as_written-requires
as_written-requires c = search writes

pub shape_of-pairs-in-Err : goal.shape_of-pairs-in-Err
shape_of-pairs-in-Err c = search writes

pub shape_of-content-in-Err : goal.shape_of-content-in-Err
shape_of-content-in-Err c = search writes

pub shape_of-fragments-in-Err : goal.shape_of-fragments-in-Err
shape_of-fragments-in-Err c = search writes

pub returns-in-Err : goal.returns-in-Err
returns-in-Err c = search writes

pub shape_of-pairs-in-Ok : goal.shape_of-pairs-in-Ok
shape_of-pairs-in-Ok c = search writes

pub shape_of-content-in-Ok : goal.shape_of-content-in-Ok
shape_of-content-in-Ok c = search writes

pub shape_of-fragments-in-Ok : goal.shape_of-fragments-in-Ok
shape_of-fragments-in-Ok c = search writes

pub shape_of-out : goal.shape_of-out
shape_of-out c = search writes

pub returns-in-Ok : goal.returns-in-Ok
returns-in-Ok c = search writes
