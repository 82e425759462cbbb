use Rattle.counts_of.proofs.Laws.Walk.{walks, told-found, told_more}
use Rattle.counts_of.proofs.walk.first_told.Goals as goal

pub returns-in_err-next : goal.returns-in_err-next
returns-in_err-next c = rw c.from_residual.ensures (search walks)

pub returns-in-Some : goal.returns-in-Some
returns-in-Some c = told-found _ _ _ c.entry_end.ensures c.loop-p.invariant c.in_ok-next.was c.tells_at.ensures c.in-Some.is

pub loop-p-smaller : goal.loop-p-smaller
loop-p-smaller c = search walks

pub loop-p-preserved : goal.loop-p-preserved
loop-p-preserved c = told_more _ _ _ c.entry_end.ensures c.loop-p.invariant c.in_ok-next.was c.tells_at.ensures c.in_default.is

pub returns : goal.returns
returns c = search walks
