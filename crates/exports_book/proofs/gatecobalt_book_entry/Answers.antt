use Rattle.exports_book.proofs.Laws.{numbers}
use Rattle.exports_book.proofs.gatecobalt_book_entry.Goals as goal

pub row_at-row-requires : goal.row_at-row-requires
row_at-row-requires c = search numbers

pub returns : goal.returns
returns c = search numbers
