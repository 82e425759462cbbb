use Rattle.pair_rows.proofs.Laws.{lowness}
use Rattle.pair_rows.proofs.is_low.Goals as goal

pub returns-then-n-gt65536 : goal.returns-then-n-gt65536
returns-then-n-gt65536 c = search lowness

pub returns-then-n-gt16777216 : goal.returns-then-n-gt16777216
returns-then-n-gt16777216 c = search lowness

pub returns-then-n-gt4194304 : goal.returns-then-n-gt4194304
returns-then-n-gt4194304 c = search lowness

pub returns-then-l-gt65536 : goal.returns-then-l-gt65536
returns-then-l-gt65536 c = search lowness

pub returns-then-l-gt256 : goal.returns-then-l-gt256
returns-then-l-gt256 c = search lowness

pub returns : goal.returns
returns c = search lowness
