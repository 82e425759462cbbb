use Rattle.kept_areas.proofs.Ranks.{keeps}
use Rattle.kept_areas.proofs.kept.is_kept.Goals as goal

pub returns : goal.returns
returns c = search keeps
