use Rattle.pair_rows.proofs.Laws.{rooming}
use Rattle.pair_rows.proofs.has_room.Goals as goal

pub returns-then-pairs-lt28672 : goal.returns-then-pairs-lt28672
returns-then-pairs-lt28672 c = search rooming

pub returns-then-content-lt32768 : goal.returns-then-content-lt32768
returns-then-content-lt32768 c = search rooming

pub returns : goal.returns
returns c = search rooming
