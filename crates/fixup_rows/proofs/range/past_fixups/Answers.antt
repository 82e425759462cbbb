use Rattle.row_parts.proofs.Ranges.{passes}
use Rattle.fixup_rows.proofs.range.past_fixups.Goals as goal

pub loop-j-preserved : goal.loop-j-preserved
loop-j-preserved c = search passes

pub returns-then-not-fixup_in : goal.returns-then-not-fixup_in
returns-then-not-fixup_in c = search passes

pub returns : goal.returns
returns c = search passes
