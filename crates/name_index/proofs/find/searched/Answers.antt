use Rattle.name_index.proofs.Laws.{searches}
use Rattle.name_index.proofs.find.searched.Goals as goal

pub loop-j-init : goal.loop-j-init
loop-j-init c = search searches

pub returns-then-named : goal.returns-then-named
returns-then-named c = search searches

pub loop-j-preserved : goal.loop-j-preserved
loop-j-preserved c = search searches

pub returns : goal.returns
returns c = search searches
