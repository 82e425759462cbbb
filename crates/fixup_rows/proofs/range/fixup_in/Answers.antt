use Rattle.fixup_rows.proofs.Fixups.{homes}
use Rattle.fixup_rows.proofs.range.fixup_in.Goals as goal

pub returns : goal.returns
returns c = search homes
