use Rattle.book_write.proofs.Entries.{entries}
use Rattle.book_write.proofs.entry.put_body.Goals as goal

pub given_cell-name-requires : goal.given_cell-name-requires
given_cell-name-requires c = search entries

pub given_cell-long-requires : goal.given_cell-long-requires
given_cell-long-requires c = search entries

pub given_cell-values-requires : goal.given_cell-values-requires
given_cell-values-requires c = search entries

pub given_cell-masks-requires : goal.given_cell-masks-requires
given_cell-masks-requires c = search entries

pub given_cell-size-requires : goal.given_cell-size-requires
given_cell-size-requires c = search entries

pub put_part-requires : goal.put_part-requires
put_part-requires c = search entries

pub length_in-requires : goal.length_in-requires
length_in-requires c = search entries

pub wide-requires : goal.wide-requires
wide-requires c = search entries

pub overflow_add-behind : goal.overflow_add-behind
overflow_add-behind c = search entries

pub put_part-requires-2 : goal.put_part-requires-2
put_part-requires-2 c = search entries

pub length_in-requires-2 : goal.length_in-requires-2
length_in-requires-2 c = search entries

pub wide-requires-2 : goal.wide-requires-2
wide-requires-2 c = search entries

pub overflow_add-last : goal.overflow_add-last
overflow_add-last c = search entries

pub put_part-requires-3 : goal.put_part-requires-3
put_part-requires-3 c = search entries

pub shape_of-out : goal.shape_of-out
shape_of-out c = search entries

pub returns : goal.returns
returns c = search entries
