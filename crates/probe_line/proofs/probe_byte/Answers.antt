use Rattle.probe_line.proofs.Laws.{probing}
use Rattle.probe_line.proofs.probe_byte.Goals as goal

pub parse_byte-requires : goal.parse_byte-requires
parse_byte-requires c = search probing

pub number_row-requires : goal.number_row-requires
number_row-requires c = search probing

pub returns : goal.returns
returns c = search probing
