use Rattle.images.proofs.ImageLaws.{wholly}
use Rattle.images.proofs.image.write_image.Goals as goal

pub returns-then-not-is_ready : goal.returns-then-not-is_ready
returns-then-not-is_ready c = search wholly

pub write_entries-requires : goal.write_entries-requires
write_entries-requires c = search wholly

pub returns : goal.returns
returns c = search wholly
