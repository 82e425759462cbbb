use Rattle.opening.proofs.Laws.{opens}
use Rattle.opening.proofs.open.Goals as goal

pub format_spec-requires : goal.format_spec-requires
format_spec-requires c = search opens

pub enum_known-form : goal.enum_known-form
enum_known-form c = search opens

pub enum_told-1 : goal.enum_told-1
enum_told-1 c = search opens

pub refused-requires : goal.refused-requires
refused-requires c = search opens

pub returns-in_default : goal.returns-in_default
returns-in_default c = search opens

pub line_ending-e-requires : goal.line_ending-e-requires
line_ending-e-requires c = search opens

pub header_only-only-requires : goal.header_only-only-requires
header_only-only-requires c = search opens

pub returns-then-e-eq0 : goal.returns-then-e-eq0
returns-then-e-eq0 c = search opens

pub takes_by-requires : goal.takes_by-requires
takes_by-requires c = search opens

pub refused-requires-then-not-takes_by : goal.refused-requires-then-not-takes_by
refused-requires-then-not-takes_by c = search opens

pub returns-then-not-takes_by : goal.returns-then-not-takes_by
returns-then-not-takes_by c = search opens

pub overflow_add-at : goal.overflow_add-at
overflow_add-at c = search opens

pub returns-then-ended : goal.returns-then-ended
returns-then-ended c = search opens

pub returns : goal.returns
returns c = search opens
