use Rattle.fixups.proofs.NextLaws.{nearing}
use Rattle.fixups.proofs.next.nearer_at.Goals as goal

pub at-requires : goal.at-requires
at-requires c = search nearing

pub gives_fixup-requires : goal.gives_fixup-requires
gives_fixup-requires c = search nearing

pub at-requires-then-gives_fixup : goal.at-requires-then-gives_fixup
at-requires-then-gives_fixup c = search nearing

pub nearer-requires : goal.nearer-requires
nearer-requires c = search nearing

pub returns-then-gives_fixup : goal.returns-then-gives_fixup
returns-then-gives_fixup c = search nearing

pub returns : goal.returns
returns c = search nearing
