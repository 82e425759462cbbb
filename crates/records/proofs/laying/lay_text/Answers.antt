use Rattle.records.proofs.Whole.{laying}
use Rattle.records.proofs.laying.lay_text.Goals as goal

pub format_spec-requires : goal.format_spec-requires
format_spec-requires c = search laying

pub enum_known-form : goal.enum_known-form
enum_known-form c = search laying

pub enum_told-1 : goal.enum_told-1
enum_told-1 c = search laying

pub returns-in_default : goal.returns-in_default
returns-in_default c = search laying

pub line_ending-requires : goal.line_ending-requires
line_ending-requires c = search laying

pub overflow_add-at : goal.overflow_add-at
overflow_add-at c = search laying

pub group_two_at-p-requires : goal.group_two_at-p-requires
group_two_at-p-requires c = search laying

pub store_all-counts-requires : goal.store_all-counts-requires
store_all-counts-requires c = search laying

pub shape_of-pairs : goal.shape_of-pairs
shape_of-pairs c = search laying

pub shape_of-content : goal.shape_of-content
shape_of-content c = search laying

pub shape_of-fragments : goal.shape_of-fragments
shape_of-fragments c = search laying

pub returns : goal.returns
returns c = search laying
