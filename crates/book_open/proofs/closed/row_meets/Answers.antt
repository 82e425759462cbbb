use Rattle.book_open.proofs.Rows.{rows-read}
use Rattle.book_open.proofs.closed.row_meets.Goals as goal

pub returns-then-wide-at : goal.returns-then-wide-at
returns-then-wide-at c = search rows-read

pub returns-else-wide-at : goal.returns-else-wide-at
returns-else-wide-at c = search rows-read
