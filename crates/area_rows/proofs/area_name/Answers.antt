use Rattle.area_rows.proofs.Laws.{areas}
use Rattle.area_rows.proofs.area_name.Goals as goal

pub returns : goal.returns
returns c = search areas
