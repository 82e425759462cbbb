use Rattle.probe_line.proofs.Laws.{probing}
use Rattle.probe_line.proofs.probe_ignored.Goals as goal

pub ignore_line-requires : goal.ignore_line-requires
ignore_line-requires c = search probing

pub place_row-requires : goal.place_row-requires
place_row-requires c = search probing

pub returns : goal.returns
returns c = search probing
