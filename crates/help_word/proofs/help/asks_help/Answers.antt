use Rattle.help_word.proofs.Asking.{asking}
use Rattle.help_word.proofs.help.asks_help.Goals as goal

pub returns-then-same_name : goal.returns-then-same_name
returns-then-same_name c = search asking

pub returns-else-same_name : goal.returns-else-same_name
returns-else-same_name c = search asking
