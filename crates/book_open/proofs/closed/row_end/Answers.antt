use Rattle.book_open.proofs.Rows.{rows-read}
use Rattle.book_open.proofs.closed.row_end.Goals as goal

pub returns : goal.returns
returns c = search rows-read
