use Rattle.fixups.proofs.NextLaws.{seeking}
use Rattle.fixups.proofs.next.next_at.Goals as goal

pub loop-i-init : goal.loop-i-init
loop-i-init c = search seeking

pub nearer_at-r-requires : goal.nearer_at-r-requires
nearer_at-r-requires c = search seeking

pub loop-i-preserved : goal.loop-i-preserved
loop-i-preserved c = search seeking

pub returns : goal.returns
returns c = search seeking
