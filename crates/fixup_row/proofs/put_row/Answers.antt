use Rattle.fixup_row.proofs.RowLaws.{storing}
use Rattle.fixup_row.proofs.put_row.Goals as goal

pub returns : goal.returns
returns c = search storing
