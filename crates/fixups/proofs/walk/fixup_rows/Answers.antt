use Rattle.fixups.proofs.LineLaws.{walking, bounds, walk-stop, walk_more}
use Rattle.std.proofs.lemmas.Result.{err_from_is_err_and}
use Rattle.fixups.proofs.walk.fixup_rows.Goals as goal

pub overflow_add-n : goal.overflow_add-n
overflow_add-n c = search walking

pub overflow_cast-n : goal.overflow_cast-n
overflow_cast-n c = search walking

pub loop-next-init : goal.loop-next-init
loop-next-init c = search walking

pub returns-then-site-p : goal.returns-then-site-p
returns-then-site-p c = search walking

pub entry_rows-requires : goal.entry_rows-requires
entry_rows-requires c = record {
  ready = search walking;
  clear = search walking;
  made_in_bounds = (search walking, search walking, search walking);
}

pub returns-in_err-k : goal.returns-in_err-k
returns-in_err-k c =
    let p = err_from_is_err_and c.from_residual.result c.from_residual.ensures.1 in
    rw (p.1, p.2) (walk-stop c.loop-next.invariant c.loop-next-test.true c.if-site-p.false c.entry_rows.ensures c.in_err-k.was)

pub overflow_add-p : goal.overflow_add-p
overflow_add-p c = search bounds

pub overflow_add-e : goal.overflow_add-e
overflow_add-e c = search bounds

pub loop-next-smaller : goal.loop-next-smaller
loop-next-smaller c = search bounds

pub loop-next-preserved : goal.loop-next-preserved
loop-next-preserved c = walk_more c.loop-next.invariant c.loop-next-test.true c.if-site-p.false c.entry_rows.ensures c.in_ok-k.was (search walking) c.grows-p.ensures c.next_from-next.ensures

pub returns : goal.returns
returns c = search walking
