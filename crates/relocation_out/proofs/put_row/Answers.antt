use Rattle.relocation_out.proofs.Laws.{rowing}
use Rattle.relocation_out.proofs.put_row.Goals as goal

pub overflow_mul-j : goal.overflow_mul-j
overflow_mul-j c = search rowing

pub at-mode-requires : goal.at-mode-requires
at-mode-requires c = search rowing

pub overflow_add-j : goal.overflow_add-j
overflow_add-j c = search rowing

pub at-entry-requires : goal.at-entry-requires
at-entry-requires c = search rowing

pub overflow_add-j-2 : goal.overflow_add-j-2
overflow_add-j-2 c = search rowing

pub at-index-requires : goal.at-index-requires
at-index-requires c = search rowing

pub put_part-requires : goal.put_part-requires
put_part-requires c = search rowing

pub shape_of-out : goal.shape_of-out
shape_of-out c = search rowing

pub returns : goal.returns
returns c = search rowing
