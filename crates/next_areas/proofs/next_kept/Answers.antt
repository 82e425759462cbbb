use Rattle.next_areas.proofs.Laws.{nexts}
use Rattle.next_areas.proofs.next_kept.Goals as goal

pub returns-then-is_kept : goal.returns-then-is_kept
returns-then-is_kept c = search nexts

pub loop-j-preserved : goal.loop-j-preserved
loop-j-preserved c = search nexts

pub returns : goal.returns
returns c = search nexts
