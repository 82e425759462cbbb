use Rattle.area_rows.proofs.Laws.{areas}
use Rattle.area_rows.proofs.area_size.Goals as goal

pub returns : goal.returns
returns c = search areas
