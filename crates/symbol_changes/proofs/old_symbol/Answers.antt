use Rattle.symbol_changes.proofs.Names.{olds, onlys}
use Rattle.symbol_changes.proofs.old_symbol.Goals as goal

pub values-requires : goal.values-requires
values-requires c = search olds

pub returns-then-j-n : goal.returns-then-j-n
returns-then-j-n c = search olds

pub returns-then-first_named-i : goal.returns-then-first_named-i
returns-then-first_named-i c = search onlys fits 8000

pub returns : goal.returns
returns c = search olds
