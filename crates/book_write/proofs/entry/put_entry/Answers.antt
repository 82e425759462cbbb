use Rattle.book_write.proofs.Entries.{entries}
use Rattle.book_write.proofs.entry.put_entry.Goals as goal

pub name_size-long-requires : goal.name_size-long-requires
name_size-long-requires c = search entries

pub values_size-size-requires : goal.values_size-size-requires
values_size-size-requires c = search entries

pub overflow_cast-start : goal.overflow_cast-start
overflow_cast-start c = search entries

pub overflow_add-start : goal.overflow_add-start
overflow_add-start c = search entries

pub put_row-requires : goal.put_row-requires
put_row-requires c = search entries

pub shape_of-out : goal.shape_of-out
shape_of-out c = search entries

pub returns : goal.returns
returns c = search entries
