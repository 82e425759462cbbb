use Rattle.alike.proofs.Fixups.{fixups}
use Rattle.alike.proofs.fixup.same_fixup.Goals as goal

pub fixup_at-x-requires : goal.fixup_at-x-requires
fixup_at-x-requires c = search fixups

pub fixup_at-y-requires : goal.fixup_at-y-requires
fixup_at-y-requires c = search fixups

pub same_numbers-requires : goal.same_numbers-requires
same_numbers-requires c = search fixups

pub same_reference-requires : goal.same_reference-requires
same_reference-requires c = search fixups

pub returns-then-same_numbers : goal.returns-then-same_numbers
returns-then-same_numbers c = search fixups

pub returns : goal.returns
returns c = search fixups
