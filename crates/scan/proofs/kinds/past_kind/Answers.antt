use Rattle.scan.proofs.Laws.Kinds.{spans}
use Rattle.scan.proofs.kinds.past_kind.Goals as goal

pub returns-then-not-of_kind : goal.returns-then-not-of_kind
returns-then-not-of_kind c = search spans

pub loop-i-preserved : goal.loop-i-preserved
loop-i-preserved c = search spans

pub returns : goal.returns
returns c = search spans
