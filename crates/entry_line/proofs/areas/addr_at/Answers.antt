use Rattle.entry_line.proofs.Laws.Areas.{addrs}
use Rattle.entry_line.proofs.areas.addr_at.Goals as goal

pub returns-in-Ok : goal.returns-in-Ok
returns-in-Ok c = search addrs

pub returns-in-Err : goal.returns-in-Err
returns-in-Err c = search addrs
