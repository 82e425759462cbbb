use Rattle.record_parts.proofs.Laws.{columns}
use Rattle.record_parts.proofs.columns_at.Goals as goal

pub loop-i-init : goal.loop-i-init
loop-i-init c = search columns

pub loop-i-preserved : goal.loop-i-preserved
loop-i-preserved c = search columns

pub returns : goal.returns
returns c = search columns
