use Rattle.code_match.proofs.Laws.{agreeing}
use Rattle.code_match.proofs.agrees.Goals as goal

pub returns : goal.returns
returns c = search agreeing
