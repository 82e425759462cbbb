use Rattle.target_words.proofs.Laws.{reading}
use Rattle.std.proofs.Common.{rules}
use Rattle.target_words.specs.Shifted.{shifted_right}
use Rattle.target_words.proofs.word.shr64.Goals as goal

pub overflow_shr-result : goal.overflow_shr-result
overflow_shr-result c = search reading

pub returns : goal.returns
unfolding shifted_right
returns c = search rules
