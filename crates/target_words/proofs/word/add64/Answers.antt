use Rattle.target_words.proofs.Laws.{reading}
use Rattle.std.proofs.Common.{rules}
use Rattle.format.specs.Target.{wrap_add}
use Rattle.target_words.proofs.word.add64.Goals as goal

pub returns : goal.returns
unfolding wrap_add
returns c = search rules
