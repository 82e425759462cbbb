use Rattle.scan.proofs.Laws.Lines.{ending}
use Rattle.scan.proofs.lines.line_ending.Goals as goal
use Rattle.scan.proofs.lines.line_ending.Goals.{else-a-eq13-via-then-a-eq13+else-byte_at-eq10, else-a-eq13-via-else-a-eq13}

pub returns-then-t-at : goal.returns-then-t-at
returns-then-t-at c = search ending

pub returns-then-a-eq10 : goal.returns-then-a-eq10
returns-then-a-eq10 c = search ending

pub returns-then-byte_at-eq10 : goal.returns-then-byte_at-eq10
returns-then-byte_at-eq10 c = search ending

pub returns : goal.returns
returns c =
    elim c.else-a-eq13.branch [ else-a-eq13-via-then-a-eq13+else-byte_at-eq10 w ↦ search ending | else-a-eq13-via-else-a-eq13 w ↦ search ending ]
