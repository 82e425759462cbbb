use Rattle.joined.proofs.Laws.{widths}
use Rattle.joined.proofs.parse_area_index.Goals as goal

pub two_of-requires : goal.two_of-requires
two_of-requires c = search widths

pub returns : goal.returns
returns c = search widths
