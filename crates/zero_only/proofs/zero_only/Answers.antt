use Rattle.zero_only.proofs.Laws.{zeros}
use Rattle.zero_only.proofs.zero_only.Goals as goal

pub returns-in_default : goal.returns-in_default
returns-in_default c = search zeros

pub returns-then-n-eq0 : goal.returns-then-n-eq0
returns-then-n-eq0 c = search zeros

pub returns : goal.returns
returns c = search zeros
