use Rattle.referred_address.proofs.Laws.{referring}
use Rattle.referred_address.proofs.refers.Goals as goal

pub returns : goal.returns
returns c = search referring
