use Rattle.book_find.proofs.Laws.{finding}
use Rattle.book_find.proofs.find_name.Goals as goal

pub number_at-high-requires : goal.number_at-high-requires
number_at-high-requires c = search finding

pub loop-low-init : goal.loop-low-init
loop-low-init c = search finding

pub overflow_sub-middle : goal.overflow_sub-middle
overflow_sub-middle c = search finding

pub overflow_add-middle : goal.overflow_add-middle
overflow_add-middle c = search finding

pub name_at-requires : goal.name_at-requires
name_at-requires c = search finding

pub compare-requires : goal.compare-requires
compare-requires c = search finding

pub enum_told-1 : goal.enum_told-1
enum_told-1 c = search finding

pub loop-low-smaller-in-Less : goal.loop-low-smaller-in-Less
loop-low-smaller-in-Less c = search finding

pub loop-low-preserved-in-Less : goal.loop-low-preserved-in-Less
loop-low-preserved-in-Less c = search finding

pub enum_told-in-Equal : goal.enum_told-in-Equal
enum_told-in-Equal c = search finding

pub row_at-row-requires : goal.row_at-row-requires
row_at-row-requires c = search finding

pub returns-in-Equal : goal.returns-in-Equal
returns-in-Equal c = search finding

pub enum_told-in-Greater : goal.enum_told-in-Greater
enum_told-in-Greater c = search finding

pub overflow_add-low : goal.overflow_add-low
overflow_add-low c = search finding

pub loop-low-smaller : goal.loop-low-smaller
loop-low-smaller c = search finding

pub loop-low-preserved : goal.loop-low-preserved
loop-low-preserved c = search finding

pub returns : goal.returns
returns c = search finding
