use Rattle.book_read.proofs.Laws.{rooms}
use Rattle.book_read.proofs.copy_found.Goals as goal

pub returns : goal.returns
returns c = search rooms
