use Rattle.probe_line.proofs.Laws.{probing}
use Rattle.probe_line.proofs.probe_address.Goals as goal

pub width_from-requires : goal.width_from-requires
width_from-requires c = search probing

pub parse_multi_number-requires : goal.parse_multi_number-requires
parse_multi_number-requires c = search probing

pub number_row-requires : goal.number_row-requires
number_row-requires c = search probing

pub returns : goal.returns
returns c = search probing
