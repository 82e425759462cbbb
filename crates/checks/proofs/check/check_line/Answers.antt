use Rattle.checks.proofs.CheckLaws.{checking, checking-stop, checking-more}
use Rattle.std.proofs.lemmas.Result.{err_from_is_err_and}
use Rattle.checks.proofs.check.check_line.Goals as goal

pub loop-e-init : goal.loop-e-init
loop-e-init c = search checking

pub returns-then-site-p : goal.returns-then-site-p
returns-then-site-p c = search checking

pub returns-in_err-k : goal.returns-in_err-k
returns-in_err-k c =
    let p = err_from_is_err_and c.from_residual.result c.from_residual.ensures.1 in
    rw (p.1, p.2) (checking-stop c.loop-e.invariant c.loop-e-test.true c.if-site-p.false c.check_entry.ensures c.in_err-k.was)

pub loop-e-preserved : goal.loop-e-preserved
loop-e-preserved c = checking-more c.loop-e.invariant c.loop-e-test.true c.if-site-p.false c.check_entry.ensures c.in_ok-k.was c.grows-p.ensures

pub returns : goal.returns
returns c = search checking
