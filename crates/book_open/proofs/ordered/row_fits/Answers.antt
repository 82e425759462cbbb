use Rattle.book_open.proofs.Rows.{fitting}
use Rattle.book_open.proofs.ordered.row_fits.Goals as goal

pub returns-then-in_file : goal.returns-then-in_file
returns-then-in_file c = search fitting

pub returns-else-in_file : goal.returns-else-in_file
returns-else-in_file c = search fitting
