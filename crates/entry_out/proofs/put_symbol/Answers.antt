use Rattle.entry_out.proofs.Laws.{symbols}
use Rattle.entry_out.proofs.put_symbol.Goals as goal

pub put_both-p-requires : goal.put_both-p-requires
put_both-p-requires c = search symbols

pub put_value-q-requires : goal.put_value-q-requires
put_value-q-requires c = search symbols

pub put-requires : goal.put-requires
put-requires c = search symbols

pub shape_of-out : goal.shape_of-out
shape_of-out c = search symbols

pub returns : goal.returns
returns c = search symbols
