use Rattle.ended.proofs.Laws.{besides}
use Rattle.ended.proofs.accepted.Goals as goal

pub format_spec-requires : goal.format_spec-requires
format_spec-requires c = search besides

pub enum_known-form : goal.enum_known-form
enum_known-form c = search besides

pub enum_told-1 : goal.enum_told-1
enum_told-1 c = search besides

pub returns-in_default : goal.returns-in_default
returns-in_default c = search besides

pub line_ending-requires : goal.line_ending-requires
line_ending-requires c = search besides

pub overflow_add-head : goal.overflow_add-head
overflow_add-head c = search besides

pub accepted-requires : goal.accepted-requires
accepted-requires c = search besides

pub returns : goal.returns
returns c = search besides
