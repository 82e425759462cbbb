use Rattle.one_position.proofs.ExplainLaws.{lending}
use Rattle.one_position.proofs.whole.by_rows.Goals as goal

pub format_spec-requires : goal.format_spec-requires
format_spec-requires c = search lending

pub enum_known-form : goal.enum_known-form
enum_known-form c = search lending

pub enum_told-1 : goal.enum_told-1
enum_told-1 c = search lending

pub returns-in_default : goal.returns-in_default
returns-in_default c = search lending

pub line_ending-requires : goal.line_ending-requires
line_ending-requires c = search lending

pub overflow_add-at : goal.overflow_add-at
overflow_add-at c = search lending

pub by_tables-requires : goal.by_tables-requires
by_tables-requires c = search lending

pub returns : goal.returns
returns c = search lending
