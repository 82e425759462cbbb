use Rattle.entry_out.proofs.Laws.{addrs}
use Rattle.entry_out.proofs.put_addr.Goals as goal

pub put_field-requires : goal.put_field-requires
put_field-requires c = search addrs

pub returns-in-Some : goal.returns-in-Some
returns-in-Some c = search addrs

pub returns-in-None : goal.returns-in-None
returns-in-None c = search addrs
