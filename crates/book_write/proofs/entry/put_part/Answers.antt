use Rattle.book_write.proofs.Entries.{entries}
use Rattle.book_write.proofs.entry.put_part.Goals as goal

pub wide-requires : goal.wide-requires
wide-requires c = search entries

pub part_of-requires : goal.part_of-requires
part_of-requires c = search entries

pub wide-requires-2 : goal.wide-requires-2
wide-requires-2 c = search entries

pub copy_bytes-requires : goal.copy_bytes-requires
copy_bytes-requires c = search entries

pub shape_of-out : goal.shape_of-out
shape_of-out c = search entries

pub returns : goal.returns
returns c = search entries
