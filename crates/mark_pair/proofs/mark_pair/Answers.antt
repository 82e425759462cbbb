use Rattle.mark_pair.proofs.Pairs.{pairing}
use Rattle.mark_pair.proofs.mark_pair.Goals as goal

pub returns-then-not-home_fits : goal.returns-then-not-home_fits
returns-then-not-home_fits c = search pairing

pub mark_at_site-requires : goal.mark_at_site-requires
mark_at_site-requires c = search pairing

pub returns-in-Unkept : goal.returns-in-Unkept
returns-in-Unkept c = search pairing

pub returns-in-Misfit : goal.returns-in-Misfit
returns-in-Misfit c = search pairing

pub returns-in-At : goal.returns-in-At
returns-in-At c = search pairing
