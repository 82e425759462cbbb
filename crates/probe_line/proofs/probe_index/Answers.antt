use Rattle.probe_line.proofs.Laws.{probing}
use Rattle.probe_line.proofs.probe_index.Goals as goal

pub parse_area_index-requires : goal.parse_area_index-requires
parse_area_index-requires c = search probing

pub number_row-requires : goal.number_row-requires
number_row-requires c = search probing

pub returns : goal.returns
returns c = search probing
