use Rattle.position_tests.proofs.Laws.{longers}
use Rattle.position_tests.proofs.tests.longer.Goals as goal

pub returns : goal.returns
returns c = search longers
