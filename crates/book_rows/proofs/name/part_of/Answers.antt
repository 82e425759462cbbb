use Rattle.book_rows.proofs.Laws.{parts}
use Rattle.book_rows.proofs.name.part_of.Goals as goal

pub returns : goal.returns
returns c = search parts
