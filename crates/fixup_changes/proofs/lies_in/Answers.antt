use Rattle.fixup_changes.proofs.Lacks.{kinds}
use Rattle.fixup_changes.proofs.lies_in.Goals as goal

pub fixup_at-x-requires : goal.fixup_at-x-requires
fixup_at-x-requires c = search kinds

pub returns : goal.returns
returns c = search kinds
