use Rattle.opening.proofs.Laws.{header-alone}
use Rattle.opening.proofs.header_only.Goals as goal

pub returns-then-ended : goal.returns-then-ended
returns-then-ended c = search header-alone

pub accept-requires : goal.accept-requires
accept-requires c = search header-alone

pub returns : goal.returns
returns c = search header-alone
