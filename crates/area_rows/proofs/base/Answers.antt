use Rattle.area_rows.proofs.Laws.{areas}
use Rattle.area_rows.proofs.base.Goals as goal

pub returns-then-given-eq1 : goal.returns-then-given-eq1
returns-then-given-eq1 c = search areas

pub returns-else-given-eq1 : goal.returns-else-given-eq1
returns-else-given-eq1 c = search areas
