use borrow.Author.Rules.{rules}
use Rattle.tables.proofs.GroupOne.{grouping}
use Rattle.tables.proofs.group.group_over.Goals as goal

pub returns-then-t-gt-TEXT_ROOM : goal.returns-then-t-gt-TEXT_ROOM
returns-then-t-gt-TEXT_ROOM c = search grouping

pub found_of-f-requires : goal.found_of-f-requires
found_of-f-requires c = search grouping

pub loop-entry-init : goal.loop-entry-init
loop-entry-init c = search grouping

pub entry_step-step-requires : goal.entry_step-step-requires
entry_step-step-requires c = search grouping

pub enum_told-1 : goal.enum_told-1
enum_told-1 c = search grouping

pub shape_of-symbols-in_default : goal.shape_of-symbols-in_default
shape_of-symbols-in_default c = search grouping

pub returns-in_default : goal.returns-in_default
returns-in_default c = search grouping

pub found_of-f-requires-in-loop-entry : goal.found_of-f-requires-in-loop-entry
found_of-f-requires-in-loop-entry c = search grouping

pub shape_of-symbols-then-not-on : goal.shape_of-symbols-then-not-on
shape_of-symbols-then-not-on c = search grouping

pub returns-then-not-on : goal.returns-then-not-on
returns-then-not-on c = search grouping

pub loop-entry-smaller : goal.loop-entry-smaller
loop-entry-smaller c = search grouping

pub loop-entry-preserved : goal.loop-entry-preserved
loop-entry-preserved c = (search grouping, search grouping, search rules)

pub returns-in-Err : goal.returns-in-Err
returns-in-Err c = search grouping
