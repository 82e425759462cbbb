use Rattle.entry_out.proofs.Laws.{parts}
use Rattle.entry_out.proofs.put_both.Goals as goal

pub put_word-p-requires : goal.put_word-p-requires
put_word-p-requires c = search parts

pub put_word-requires : goal.put_word-requires
put_word-requires c = search parts

pub shape_of-out : goal.shape_of-out
shape_of-out c = search parts

pub returns : goal.returns
returns c = search parts
