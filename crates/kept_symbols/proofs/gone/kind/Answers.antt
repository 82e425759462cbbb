use Rattle.kept_symbols.proofs.Laws.Gone.{others}
use Rattle.kept_symbols.proofs.gone.kind.Goals as goal

pub returns-then-list-i : goal.returns-then-list-i
returns-then-list-i c = search others

pub overflow_mul-i : goal.overflow_mul-i
overflow_mul-i c = search others

pub at-requires : goal.at-requires
at-requires c = search others

pub returns : goal.returns
returns c = search others
