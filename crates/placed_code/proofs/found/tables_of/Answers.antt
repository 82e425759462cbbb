use Rattle.placed_code.proofs.FoundLaws.{by-header}
use Rattle.placed_code.proofs.found.tables_of.Goals as goal

pub format_spec-requires : goal.format_spec-requires
format_spec-requires c = search by-header

pub enum_known-form : goal.enum_known-form
enum_known-form c = search by-header

pub enum_told-1 : goal.enum_told-1
enum_told-1 c = search by-header

pub none_found-requires : goal.none_found-requires
none_found-requires c = search by-header

pub returns-in_default : goal.returns-in_default
returns-in_default c = search by-header

pub line_ending-requires : goal.line_ending-requires
line_ending-requires c = search by-header

pub overflow_add-at : goal.overflow_add-at
overflow_add-at c = search by-header

pub tables_at-requires : goal.tables_at-requires
tables_at-requires c = search by-header

pub returns : goal.returns
returns c = search by-header
