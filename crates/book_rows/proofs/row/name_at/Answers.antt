use Rattle.book_rows.proofs.Laws.{rows}
use Rattle.book_rows.proofs.row.name_at.Goals as goal

pub returns : goal.returns
returns c = search rows
