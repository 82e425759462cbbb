use Rattle.position_home.proofs.Laws.{within}
use Rattle.position_home.proofs.home_for.Goals as goal

pub returns-then-h-position : goal.returns-then-h-position
returns-then-h-position c = search within

pub returns : goal.returns
returns c = search within
