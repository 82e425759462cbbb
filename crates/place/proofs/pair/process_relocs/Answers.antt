use Rattle.place.proofs.PlainPairLaws.{plainly}
use Rattle.place.proofs.pair.process_relocs.Goals as goal

pub returns-then-site-eq0 : goal.returns-then-site-eq0
returns-then-site-eq0 c = search plainly
