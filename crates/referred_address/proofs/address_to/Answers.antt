use Rattle.referred_address.proofs.Laws.{telling}
use Rattle.referred_address.proofs.address_to.Goals as goal

pub returns-in-Missing : goal.returns-in-Missing
returns-in-Missing c = search telling

pub returns-in-Nothing : goal.returns-in-Nothing
returns-in-Nothing c = search telling

pub returns-in-To : goal.returns-in-To
returns-in-To c = search telling
