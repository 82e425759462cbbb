use Rattle.mark_pair.proofs.Pairs.{at-site}
use Rattle.mark_pair.proofs.mark_at_site.Goals as goal

pub returns-in-Some : goal.returns-in-Some
returns-in-Some c = search at-site

pub returns-in-None : goal.returns-in-None
returns-in-None c = search at-site
