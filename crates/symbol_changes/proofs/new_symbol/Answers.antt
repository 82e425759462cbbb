use Rattle.symbol_changes.proofs.Names.{news}
use Rattle.symbol_changes.proofs.new_symbol.Goals as goal

pub returns-then-on_one_side : goal.returns-then-on_one_side
returns-then-on_one_side c = search news

pub returns : goal.returns
returns c = search news
