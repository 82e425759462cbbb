use Rattle.texts.proofs.Laws.{texts}
use Rattle.texts.proofs.digits.hex6.Goals as goal

pub returns : goal.returns
returns c = search texts
