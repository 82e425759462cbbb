use Rattle.put_rows.proofs.RowLaws.{shortening}
use Rattle.put_rows.proofs.short.Goals as goal

pub overflow_cast-result : goal.overflow_cast-result
overflow_cast-result c = search shortening

pub returns-then-n-le-TEXT_ROOM : goal.returns-then-n-le-TEXT_ROOM
returns-then-n-le-TEXT_ROOM c = search shortening

pub returns-else-n-le-TEXT_ROOM : goal.returns-else-n-le-TEXT_ROOM
returns-else-n-le-TEXT_ROOM c = search shortening
