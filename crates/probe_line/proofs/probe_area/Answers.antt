use Rattle.probe_line.proofs.Laws.{probing}
use Rattle.probe_line.proofs.probe_area.Goals as goal

pub form_from-requires : goal.form_from-requires
form_from-requires c = search probing

pub parse_area-requires : goal.parse_area-requires
parse_area-requires c = search probing

pub entry_row-requires : goal.entry_row-requires
entry_row-requires c = search probing

pub returns : goal.returns
returns c = search probing
