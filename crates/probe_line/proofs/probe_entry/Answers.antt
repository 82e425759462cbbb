use Rattle.probe_line.proofs.Laws.{probing}
use Rattle.probe_line.proofs.probe_entry.Goals as goal

pub form_from-requires : goal.form_from-requires
form_from-requires c = search probing

pub parse_entry-requires : goal.parse_entry-requires
parse_entry-requires c = search probing

pub entry_row-requires : goal.entry_row-requires
entry_row-requires c = search probing

pub returns : goal.returns
returns c = search probing
