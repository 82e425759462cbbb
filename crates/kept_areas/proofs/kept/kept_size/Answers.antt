use Rattle.kept_areas.proofs.Ranks.{keeps}
use Rattle.kept_areas.proofs.kept.kept_size.Goals as goal

pub returns-then-is_code : goal.returns-then-is_code
returns-then-is_code c = search keeps

pub returns : goal.returns
returns c = search keeps
