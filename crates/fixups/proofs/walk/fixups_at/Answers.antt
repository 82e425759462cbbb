use Rattle.fixups.proofs.EntryLaws.{entries, fix-stop, fix-more}
use Rattle.std.proofs.lemmas.Result.{err_from_is_err_and}
use Rattle.fixups.proofs.walk.fixups_at.Goals as goal

pub loop-i-init : goal.loop-i-init
loop-i-init c = search entries

pub add-requires : goal.add-requires
add-requires c = search entries

pub returns-in_err-j : goal.returns-in_err-j
returns-in_err-j c =
    let p = err_from_is_err_and c.from_residual.result c.from_residual.ensures.1 in
    rw (p.1, p.2) (fix-stop c.loop-i.invariant c.loop-i-test.true _ c.refers_at-to.ensures c.add.ensures c.in_err-j.was)

pub loop-i-preserved : goal.loop-i-preserved
loop-i-preserved c = fix-more c.loop-i.invariant c.loop-i-test.true _ c.refers_at-to.ensures c.add.ensures c.in_ok-j.was (search entries)

pub returns : goal.returns
returns c = search entries
