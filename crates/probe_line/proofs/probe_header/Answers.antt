use Rattle.probe_line.proofs.Laws.{probing}
use Rattle.probe_line.proofs.probe_header.Goals as goal

pub format_spec-requires : goal.format_spec-requires
format_spec-requires c = search probing

pub head_row-requires : goal.head_row-requires
head_row-requires c = search probing

pub returns : goal.returns
returns c = search probing
