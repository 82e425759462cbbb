use Rattle.lists.proofs.Laws.Lists.{listing}
use Rattle.lists.proofs.parse_byte_many.Goals as goal

pub loop-n-preserved : goal.loop-n-preserved
loop-n-preserved c = search listing

pub returns : goal.returns
returns c = search listing

pub returns-in_default : goal.returns-in_default
returns-in_default c = search listing

pub overflow_cast-b : goal.overflow_cast-b
overflow_cast-b c = search listing
