use Rattle.referred_address.proofs.Laws.{adding}
use Rattle.referred_address.proofs.address_of.Goals as goal

pub returns-then-to-eq1 : goal.returns-then-to-eq1
returns-then-to-eq1 c = search adding

pub returns : goal.returns
returns c = search adding
