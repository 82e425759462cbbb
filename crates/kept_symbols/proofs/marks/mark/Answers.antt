use Rattle.kept_symbols.proofs.Laws.Marks.{marks}
use Rattle.kept_symbols.proofs.marks.mark.Goals as goal

pub loop-j-init : goal.loop-j-init
loop-j-init c = search marks

pub mark_one-requires : goal.mark_one-requires
mark_one-requires c = search marks

pub loop-j-preserved : goal.loop-j-preserved
loop-j-preserved c = search marks

pub shape_of-flags : goal.shape_of-flags
shape_of-flags c = search marks

pub returns : goal.returns
returns c = search marks
