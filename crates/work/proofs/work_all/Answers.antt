use borrow.Author.Rules.{rules}
use Rattle.work.proofs.AllLaws.{working, work-more, work-beyond}
use Rattle.work.proofs.work_all.Goals as goal

pub loop-i-init : goal.loop-i-init
loop-i-init c = search working

pub loop-i-preserved : goal.loop-i-preserved
loop-i-preserved c = work-more c.loop-i.invariant c.requires.short c.requires.in_bounds (search rules) c.turn.ensures c.in_ok-m.was (search rules)

pub returns-in_err-m : goal.returns-in_err-m
returns-in_err-m c = rw c.from_residual.ensures (work-beyond c.loop-i.invariant c.requires.short c.requires.in_bounds (search rules) c.turn.ensures c.in_err-m.was)

pub returns : goal.returns
returns c = search working
