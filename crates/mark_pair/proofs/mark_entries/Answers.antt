use Rattle.mark_pair.proofs.Walking.{marking}
use Rattle.mark_pair.proofs.mark_entries.Goals as goal

pub returns-then-site-p : goal.returns-then-site-p
returns-then-site-p c = search marking

pub loop-e-preserved : goal.loop-e-preserved
loop-e-preserved c = search marking

pub returns : goal.returns
returns c = search marking
