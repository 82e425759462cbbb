use Rattle.book_rows.proofs.Laws.{numbers}
use Rattle.book_rows.proofs.row.number_at.Goals as goal

pub returns-then-book-at : goal.returns-then-book-at
returns-then-book-at c = search numbers

pub returns : goal.returns
returns c = search numbers
