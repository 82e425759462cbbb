use Rattle.next_areas.proofs.Laws.{keeps}
use Rattle.next_areas.proofs.is_kept.Goals as goal

pub returns-then-is_code : goal.returns-then-is_code
returns-then-is_code c = search keeps

pub returns : goal.returns
returns c = search keeps
