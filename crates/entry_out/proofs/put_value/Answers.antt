use Rattle.entry_out.proofs.Laws.{values}
use Rattle.entry_out.proofs.put_value.Goals as goal

pub put_field-requires : goal.put_field-requires
put_field-requires c = search values

pub shape_of-out-then-is_ref : goal.shape_of-out-then-is_ref
shape_of-out-then-is_ref c = search values

pub returns-then-is_ref : goal.returns-then-is_ref
returns-then-is_ref c = search values

pub put_field-requires-2 : goal.put_field-requires-2
put_field-requires-2 c = search values

pub shape_of-out : goal.shape_of-out
shape_of-out c = search values

pub returns : goal.returns
returns c = search values
