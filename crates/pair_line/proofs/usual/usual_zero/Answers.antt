use Rattle.pair_line.proofs.Laws.Usual.{zeroing}
use Rattle.pair_line.proofs.usual.usual_zero.Goals as goal

pub returns-then-radix-ne16 : goal.returns-then-radix-ne16
returns-then-radix-ne16 c = search zeroing

pub returns-then-t-lt9 : goal.returns-then-t-lt9
returns-then-t-lt9 c = search zeroing

pub returns-then-zero_lead : goal.returns-then-zero_lead
returns-then-zero_lead c = search zeroing

pub returns : goal.returns
returns c = search zeroing
