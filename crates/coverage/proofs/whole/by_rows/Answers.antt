use Rattle.coverage.proofs.CoverLaws.{by_rows}
use Rattle.coverage.proofs.whole.by_rows.Goals as goal

pub format_spec-requires : goal.format_spec-requires
format_spec-requires c = search by_rows

pub enum_known-form : goal.enum_known-form
enum_known-form c = search by_rows

pub enum_told-1 : goal.enum_told-1
enum_told-1 c = search by_rows

pub returns-in_default : goal.returns-in_default
returns-in_default c = search by_rows

pub line_ending-requires : goal.line_ending-requires
line_ending-requires c = search by_rows

pub overflow_add-at : goal.overflow_add-at
overflow_add-at c = search by_rows

pub by_tables-requires : goal.by_tables-requires
by_tables-requires c = search by_rows

pub shape_of-map : goal.shape_of-map
shape_of-map c = search by_rows

pub returns : goal.returns
returns c = search by_rows
