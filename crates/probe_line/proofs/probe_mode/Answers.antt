use Rattle.probe_line.proofs.Laws.{probing}
use Rattle.probe_line.proofs.probe_mode.Goals as goal

pub parse_extended_mode-requires : goal.parse_extended_mode-requires
parse_extended_mode-requires c = search probing

pub number_row-requires : goal.number_row-requires
number_row-requires c = search probing

pub returns : goal.returns
returns c = search probing
