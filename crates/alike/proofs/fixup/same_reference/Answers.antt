use Rattle.alike.proofs.Fixups.{references}
use Rattle.alike.proofs.fixup.same_reference.Goals as goal

pub returns-then-x-eq0 : goal.returns-then-x-eq0
returns-then-x-eq0 c = search references

pub fixup_name-requires : goal.fixup_name-requires
fixup_name-requires c = search references

pub fixup_name-requires-2 : goal.fixup_name-requires-2
fixup_name-requires-2 c = search references

pub same_name-requires : goal.same_name-requires
same_name-requires c = search references

pub returns : goal.returns
returns c = search references
