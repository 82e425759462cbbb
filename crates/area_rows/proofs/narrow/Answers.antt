use Rattle.area_rows.proofs.Laws.{areas}
use Rattle.area_rows.proofs.narrow.Goals as goal

pub returns-then-n-le4294967295 : goal.returns-then-n-le4294967295
returns-then-n-le4294967295 c = search areas

pub returns-else-n-le4294967295 : goal.returns-else-n-le4294967295
returns-else-n-le4294967295 c = search areas
