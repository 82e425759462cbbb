use Rattle.joined_bytes.proofs.Laws.Joins.{firsts}
use Rattle.joined_bytes.proofs.short.first_byte.Goals as goal

pub returns-then-b-eq48 : goal.returns-then-b-eq48
returns-then-b-eq48 c = search firsts
