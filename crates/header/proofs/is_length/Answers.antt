use mathlib.Core.Path.{◌∙◌}
use borrow.Author.Tests.{lt-leb}
use Rattle.header.proofs.Laws.{headed, length-1}
use Rattle.header.proofs.is_length.Goals as goal

pub returns-then-c-ge50 : goal.returns-then-c-ge50
returns-then-c-ge50 c = search headed

pub returns-else-c-ge50 : goal.returns-else-c-ge50
returns-else-c-ge50 c = lt-leb 50 c.args.c c.if-c-ge50.false ∙ length-1 c.args.c c.if-c-ge50.false
