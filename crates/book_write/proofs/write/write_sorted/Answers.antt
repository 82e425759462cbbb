use Rattle.book_write.proofs.Laws.{sorted}
use Rattle.book_write.proofs.write.write_sorted.Goals as goal

pub sort_numbers-requires : goal.sort_numbers-requires
sort_numbers-requires c = search sorted

pub put_book-requires : goal.put_book-requires
put_book-requires c = search sorted

pub shape_of-out : goal.shape_of-out
shape_of-out c = search sorted

pub shape_of-order : goal.shape_of-order
shape_of-order c = search sorted

pub returns : goal.returns
returns c = search sorted
