use Rattle.fixups.proofs.AddLaws.{row-refused, row_fits, row-added}
use Rattle.std.proofs.lemmas.Result.{err_from_is_err_and}
use Rattle.fixups.proofs.row.write_row.Goals as goal

pub returns-in_err-x : goal.returns-in_err-x
returns-in_err-x c =
    let p = err_from_is_err_and c.from_residual.result c.from_residual.ensures.1 in
    rw (p.1, p.2) (row-refused _ _ _ _ _ _ _ _ c.one_more.ensures c.requires.0 c.in_err-x.was)

pub overflow_mul-k : goal.overflow_mul-k
overflow_mul-k c = row_fits c.args.site c.args.ms.now c.args.ns.now c.args.t c.args.i c.args.p c.args.k c.args.rows.now c.one_more.ensures c.in_ok-x.was

pub returns : goal.returns
returns c = row-added _ _ _ _ _ _ _ _ c.one_more.ensures c.in_ok-x.was c.requires.1 c.put_row.ensures
