use Rattle.images.proofs.PlainLaws.{plainly}
use Rattle.images.proofs.plain.write_plain.Goals as goal

pub returns-then-not-is_ready : goal.returns-then-not-is_ready
returns-then-not-is_ready c = search plainly

pub returns-then-bs-site : goal.returns-then-bs-site
returns-then-bs-site c = search plainly

pub lay_plain-requires : goal.lay_plain-requires
lay_plain-requires c = search plainly

pub returns : goal.returns
returns c = search plainly
