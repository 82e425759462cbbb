use Rattle.references.proofs.Laws.{symbols}
use Rattle.references.proofs.symbol_ref.Goals as goal

pub returns-then-at-eq1 : goal.returns-then-at-eq1
returns-then-at-eq1 c = search symbols

pub returns : goal.returns
returns c = search symbols
