use Rattle.fixups.proofs.PassLaws.{passing, rows-fault, rows_made}
use Rattle.std.proofs.lemmas.Result.{err_from_is_err_and}
use Rattle.fixups.proofs.pass.checked_rows.Goals as goal

pub returns-then-rows-lt-FIXUP_ROOM : goal.returns-then-rows-lt-FIXUP_ROOM
returns-then-rows-lt-FIXUP_ROOM c = search passing

pub returns-in_err-check_pair : goal.returns-in_err-check_pair
returns-in_err-check_pair c =
    let p = err_from_is_err_and c.from_residual.result c.from_residual.ensures.1 in
    rw (p.1, p.2) (rows-fault _ _ _ _ _ _ _ _ _ c.if-rows-lt-FIXUP_ROOM.false c.requires c.check_pair.ensures _ c.in_err-check_pair.was)

pub fixup_rows-requires : goal.fixup_rows-requires
fixup_rows-requires c = record { ready = search passing; made_in_bounds = (search passing, search passing) }

pub returns : goal.returns
returns c = rows_made _ _ _ _ _ _ _ _ _ c.if-rows-lt-FIXUP_ROOM.false c.requires c.check_pair.ensures c.in_ok-check_pair.was c.fixup_rows.ensures c.answered.ensures
