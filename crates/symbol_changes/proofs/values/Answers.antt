use Rattle.symbol_changes.proofs.Names.{sames}
use Rattle.symbol_changes.proofs.values.Goals as goal

pub returns-then-same_value : goal.returns-then-same_value
returns-then-same_value c = search sames

pub returns : goal.returns
returns c = search sames
