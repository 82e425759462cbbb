use Rattle.located.proofs.SiteLaws.{locating}
use Rattle.located.proofs.locate.Goals as goal

pub returns-then-home-eq0 : goal.returns-then-home-eq0
returns-then-home-eq0 c = search locating

pub site_of-site-requires : goal.site_of-site-requires
site_of-site-requires c = search locating

pub image_fits-requires : goal.image_fits-requires
image_fits-requires c = search locating

pub returns-then-not-image_fits : goal.returns-then-not-image_fits
returns-then-not-image_fits c = search locating

pub returns : goal.returns
returns c = search locating
