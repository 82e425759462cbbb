use Rattle.entry_line.proofs.Laws.Areas.{areas}
use Rattle.entry_line.proofs.areas.parse_area.Goals as goal

pub returns-in_err-name : goal.returns-in_err-name
returns-in_err-name c = search areas

pub returns : goal.returns
returns c = search areas
