use Rattle.pair_limits.proofs.LimitLaws.{limiting}
use Rattle.pair_limits.proofs.plan_placed.Goals as goal

pub refuse_pair-requires : goal.refuse_pair-requires
refuse_pair-requires c = search limiting

pub returns-then-line-gt256 : goal.returns-then-line-gt256
returns-then-line-gt256 c = search limiting

pub refuse_pair-requires-then-line-gt64 : goal.refuse_pair-requires-then-line-gt64
refuse_pair-requires-then-line-gt64 c = search limiting

pub returns-then-line-gt64 : goal.returns-then-line-gt64
returns-then-line-gt64 c = search limiting

pub returns : goal.returns
returns c = search limiting
