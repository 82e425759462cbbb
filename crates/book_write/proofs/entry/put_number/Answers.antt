use Rattle.book_write.proofs.Entries.{entries}
use Rattle.book_write.proofs.entry.put_number.Goals as goal

pub overflow_cast-bytes : goal.overflow_cast-bytes
overflow_cast-bytes c = search entries

pub overflow_cast-bytes-2 : goal.overflow_cast-bytes-2
overflow_cast-bytes-2 c = search entries

pub overflow_cast-bytes-3 : goal.overflow_cast-bytes-3
overflow_cast-bytes-3 c = search entries

pub overflow_cast-bytes-4 : goal.overflow_cast-bytes-4
overflow_cast-bytes-4 c = search entries

pub slice_bounds-copy_bytes-end : goal.slice_bounds-copy_bytes-end
slice_bounds-copy_bytes-end c = search entries

pub copy_bytes-requires : goal.copy_bytes-requires
copy_bytes-requires c = search entries

pub shape_of-out : goal.shape_of-out
shape_of-out c = search entries

pub returns : goal.returns
returns c = search entries
