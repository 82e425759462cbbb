use Rattle.convert_module.proofs.StopLaws.{judging}
use Rattle.convert_module.proofs.whole.judge.Goals as goal

pub format_spec-requires : goal.format_spec-requires
format_spec-requires c = search judging

pub enum_known-form : goal.enum_known-form
enum_known-form c = search judging

pub enum_told-1 : goal.enum_told-1
enum_told-1 c = search judging

pub returns-in_default : goal.returns-in_default
returns-in_default c = search judging

pub line_ending-requires : goal.line_ending-requires
line_ending-requires c = search judging

pub overflow_add-head : goal.overflow_add-head
overflow_add-head c = search judging

pub enum_known-verdict : goal.enum_known-verdict
enum_known-verdict c = search judging

pub stopped_at-requires : goal.stopped_at-requires
stopped_at-requires c = search judging

pub enum_told-in-Finished : goal.enum_told-in-Finished
enum_told-in-Finished c = search judging

pub write_kept-requires : goal.write_kept-requires
write_kept-requires c = search judging

pub returns-in-Stopped : goal.returns-in-Stopped
returns-in-Stopped c = search judging

pub shape_of-out : goal.shape_of-out
shape_of-out c = search judging

pub returns-in-Finished : goal.returns-in-Finished
returns-in-Finished c = search judging
