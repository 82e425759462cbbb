use Rattle.probe_line.proofs.Laws.{probing}
use Rattle.probe_line.proofs.probe_relocation.Goals as goal

pub form_from-requires : goal.form_from-requires
form_from-requires c = search probing

pub parse_reloc_line-requires : goal.parse_reloc_line-requires
parse_reloc_line-requires c = search probing

pub relocation_row-requires : goal.relocation_row-requires
relocation_row-requires c = search probing

pub returns : goal.returns
returns c = search probing
