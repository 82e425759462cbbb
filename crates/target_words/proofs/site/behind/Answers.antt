use Rattle.target_words.proofs.Laws.{reading}
use Rattle.target_words.proofs.site.behind.Goals as goal

pub has-requires : goal.has-requires
has-requires c = search reading

pub returns-then-has : goal.returns-then-has
returns-then-has c = search reading

pub returns-else-has : goal.returns-else-has
returns-else-has c = search reading
