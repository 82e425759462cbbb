use Rattle.exports_book.proofs.Laws.{numbers}
use Rattle.exports_book.proofs.gatecobalt_book_open.Goals as goal

pub open_book-requires : goal.open_book-requires
open_book-requires c = search numbers

pub opened_numbers-requires : goal.opened_numbers-requires
opened_numbers-requires c = search numbers

pub returns : goal.returns
returns c = search numbers
