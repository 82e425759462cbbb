use Rattle.pair_line.proofs.Laws.Relocations.{zeros}
use Rattle.pair_line.proofs.relocations.zero_index.Goals as goal

pub parse_area_index-requires : goal.parse_area_index-requires
parse_area_index-requires c = search zeros

pub zero_only-requires : goal.zero_only-requires
zero_only-requires c = search zeros

pub returns : goal.returns
returns c = search zeros
