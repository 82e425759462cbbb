use Rattle.book_read.proofs.Laws.{copying}
use Rattle.book_read.proofs.copy_pattern.Goals as goal

pub returns-in_default : goal.returns-in_default
returns-in_default c = search copying

pub returns : goal.returns
returns c = search copying
