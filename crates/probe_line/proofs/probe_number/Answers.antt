use Rattle.probe_line.proofs.Laws.{probing}
use Rattle.probe_line.proofs.probe_number.Goals as goal

pub parse_number-requires : goal.parse_number-requires
parse_number-requires c = search probing

pub number_row-requires : goal.number_row-requires
number_row-requires c = search probing

pub returns : goal.returns
returns c = search probing
