use Rattle.kept_areas.proofs.Ranks.{ids}
use Rattle.kept_areas.proofs.rank.area_id.Goals as goal

pub returns-then-n-i : goal.returns-then-n-i
returns-then-n-i c = search ids

pub loop-j-init : goal.loop-j-init
loop-j-init c = search ids

pub loop-j-preserved : goal.loop-j-preserved
loop-j-preserved c = search ids

pub returns : goal.returns
returns c = search ids
