use Rattle.header.proofs.Laws.{heading}
use Rattle.header.proofs.width_of.Goals as goal

pub returns-in-50 : goal.returns-in-50
returns-in-50 c = search heading

pub returns-in-51 : goal.returns-in-51
returns-in-51 c = search heading

pub returns-in_default : goal.returns-in_default
returns-in_default c = search heading
