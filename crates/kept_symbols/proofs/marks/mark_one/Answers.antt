use Rattle.kept_symbols.proofs.Laws.Marks.{marking}
use Rattle.kept_symbols.proofs.marks.mark_one.Goals as goal

pub symbol_name-requires : goal.symbol_name-requires
symbol_name-requires c = search marking

pub same_name-requires : goal.same_name-requires
same_name-requires c = search marking

pub returns-then-not-same_name : goal.returns-then-not-same_name
returns-then-not-same_name c = search marking

pub put-requires : goal.put-requires
put-requires c = search marking

pub shape_of-flags : goal.shape_of-flags
shape_of-flags c = search marking

pub returns : goal.returns
returns c = search marking
