use Rattle.kept_areas.proofs.Images.{images}
use Rattle.kept_areas.proofs.image.area_image.Goals as goal

pub returns-then-n-i : goal.returns-then-n-i
returns-then-n-i c = search images

pub loop-j-init : goal.loop-j-init
loop-j-init c = search images

pub returns-then-image-start : goal.returns-then-image-start
returns-then-image-start c = search images

pub loop-j-preserved : goal.loop-j-preserved
loop-j-preserved c = search images

pub returns : goal.returns
returns c = search images
