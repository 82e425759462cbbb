use Rattle.book_write.proofs.Entries.{entries}
use Rattle.book_write.proofs.entry.put_row.Goals as goal

pub put_number-requires : goal.put_number-requires
put_number-requires c = search entries

pub overflow_add-to : goal.overflow_add-to
overflow_add-to c = search entries

pub put_number-requires-2 : goal.put_number-requires-2
put_number-requires-2 c = search entries

pub overflow_add-to-2 : goal.overflow_add-to-2
overflow_add-to-2 c = search entries

pub put_number-requires-3 : goal.put_number-requires-3
put_number-requires-3 c = search entries

pub overflow_add-to-3 : goal.overflow_add-to-3
overflow_add-to-3 c = search entries

pub put_number-requires-4 : goal.put_number-requires-4
put_number-requires-4 c = search entries

pub shape_of-out : goal.shape_of-out
shape_of-out c = search entries

pub returns : goal.returns
returns c = search entries
