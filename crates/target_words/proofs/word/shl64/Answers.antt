use Rattle.target_words.proofs.Laws.{reading}
use Rattle.std.proofs.Common.{rules}
use Rattle.target_words.specs.Shifted.{shifted_left}
use Rattle.target_words.proofs.word.shl64.Goals as goal

pub overflow_shl-result : goal.overflow_shl-result
overflow_shl-result c = search reading

pub returns : goal.returns
unfolding shifted_left
returns c = search rules
