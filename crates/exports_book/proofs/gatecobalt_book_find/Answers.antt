use Rattle.exports_book.proofs.Laws.{numbers}
use Rattle.exports_book.proofs.gatecobalt_book_find.Goals as goal

pub find_name-requires : goal.find_name-requires
find_name-requires c = search numbers

pub found_numbers-requires : goal.found_numbers-requires
found_numbers-requires c = search numbers

pub returns : goal.returns
returns c = search numbers
