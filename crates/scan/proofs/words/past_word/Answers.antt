use Rattle.scan.proofs.Laws.Words.{wording}
use Rattle.scan.proofs.words.past_word.Goals as goal

pub loop-b-init : goal.loop-b-init
loop-b-init c = search wording

pub returns-then-t-p : goal.returns-then-t-p
returns-then-t-p c = search wording

pub returns-then-b-t : goal.returns-then-b-t
returns-then-b-t c = search wording

pub loop-b-preserved : goal.loop-b-preserved
loop-b-preserved c = search wording

pub returns : goal.returns
returns c = search wording
