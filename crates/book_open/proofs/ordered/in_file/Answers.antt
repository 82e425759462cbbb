use Rattle.book_open.proofs.Rows.{rows-read}
use Rattle.book_open.proofs.ordered.in_file.Goals as goal

pub returns-then-book-wide : goal.returns-then-book-wide
returns-then-book-wide c = search rows-read

pub returns : goal.returns
returns c = search rows-read
