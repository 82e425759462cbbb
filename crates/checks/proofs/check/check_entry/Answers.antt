use Rattle.checks.proofs.CheckLaws.{entries, counting-stop, counting_more}
use Rattle.std.proofs.lemmas.Result.{err_from_is_err_and}
use Rattle.checks.proofs.check.check_entry.Goals as goal

pub loop-i-init : goal.loop-i-init
loop-i-init c = search entries

pub returns-in_err-j : goal.returns-in_err-j
returns-in_err-j c =
    let p = err_from_is_err_and c.from_residual.result c.from_residual.ensures.1 in
    rw (p.1, p.2) (counting-stop c.loop-i.invariant c.loop-i-test.true _ c.refers_at-to.ensures c.count_to.ensures c.in_err-j.was)

pub loop-i-preserved : goal.loop-i-preserved
loop-i-preserved c = counting_more c.loop-i.invariant c.loop-i-test.true _ c.refers_at-to.ensures c.count_to.ensures c.in_ok-j.was

pub returns : goal.returns
returns c = search entries
