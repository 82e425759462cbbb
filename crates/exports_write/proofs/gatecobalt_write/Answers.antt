use Rattle.exports_write.proofs.Writing.{writes}
use Rattle.exports_write.proofs.gatecobalt_write.Goals as goal

pub form_for-requires : goal.form_for-requires
form_for-requires c = search writes

pub enum_known-form : goal.enum_known-form
enum_known-form c = search writes

pub enum_told-1 : goal.enum_told-1
enum_told-1 c = search writes

pub returns-in_default : goal.returns-in_default
returns-in_default c = search writes

pub write_module-requires : goal.write_module-requires
write_module-requires c = search writes

pub written_numbers-requires : goal.written_numbers-requires
written_numbers-requires c = search writes

pub shape_of-out : goal.shape_of-out
shape_of-out c = search writes

pub returns : goal.returns
returns c = search writes
