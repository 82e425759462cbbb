use Rattle.laid_field.proofs.Laws.{joining}
use Rattle.laid_field.proofs.field.number_at.Goals as goal

pub returns-then-bs-at : goal.returns-then-bs-at
returns-then-bs-at c = search joining
