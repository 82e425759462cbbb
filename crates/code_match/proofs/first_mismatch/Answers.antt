use Rattle.code_match.proofs.Laws.{seeking}
use Rattle.code_match.proofs.first_mismatch.Goals as goal

pub returns-then-not-agrees : goal.returns-then-not-agrees
returns-then-not-agrees c = search seeking

pub loop-i-preserved : goal.loop-i-preserved
loop-i-preserved c = search seeking

pub returns : goal.returns
returns c = search seeking
