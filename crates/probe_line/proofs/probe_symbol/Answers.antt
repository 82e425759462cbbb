use Rattle.probe_line.proofs.Laws.{probing}
use Rattle.probe_line.proofs.probe_symbol.Goals as goal

pub form_from-requires : goal.form_from-requires
form_from-requires c = search probing

pub parse_symdefref-requires : goal.parse_symdefref-requires
parse_symdefref-requires c = search probing

pub entry_row-requires : goal.entry_row-requires
entry_row-requires c = search probing

pub returns : goal.returns
returns c = search probing
