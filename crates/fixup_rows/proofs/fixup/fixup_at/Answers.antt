use Rattle.fixup_rows.proofs.Fixups.{fixups}
use Rattle.fixup_rows.proofs.fixup.fixup_at.Goals as goal

pub returns : goal.returns
returns c = search fixups
