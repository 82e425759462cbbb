use Rattle.target_words.proofs.Laws.{reading}
use Rattle.target_words.proofs.site.has.Goals as goal

pub returns-else-k-lt32 : goal.returns-else-k-lt32
returns-else-k-lt32 c = search reading
