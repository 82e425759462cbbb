use Rattle.target_words.proofs.Laws.{reading}
use Rattle.std.proofs.Common.{rules}
use Rattle.format.specs.Target.{wrap_sub}
use Rattle.target_words.proofs.word.sub64.Goals as goal

pub returns : goal.returns
unfolding wrap_sub
returns c = search rules
