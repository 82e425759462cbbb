use Rattle.fragment_symbols.proofs.Laws.{columns}
use Rattle.fragment_symbols.proofs.fragments.fragment_cell.Goals as goal

pub returns-then-rows-i : goal.returns-then-rows-i
returns-then-rows-i c = search columns

pub overflow_mul-start : goal.overflow_mul-start
overflow_mul-start c = search columns

pub overflow_sub-rows : goal.overflow_sub-rows
overflow_sub-rows c = search columns

pub returns-then-rows-start : goal.returns-then-rows-start
returns-then-rows-start c = search columns

pub overflow_add-start : goal.overflow_add-start
overflow_add-start c = search columns

pub at-requires : goal.at-requires
at-requires c = search columns

pub returns : goal.returns
returns c = search columns
