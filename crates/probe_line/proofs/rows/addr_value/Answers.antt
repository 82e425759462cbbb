use Rattle.probe_line.proofs.Laws.{small}
use Rattle.probe_line.proofs.rows.addr_value.Goals as goal

pub returns-in-Some : goal.returns-in-Some
returns-in-Some c = search small

pub returns-in-None : goal.returns-in-None
returns-in-None c = search small
