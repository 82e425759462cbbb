use Rattle.h_line.proofs.Laws.{words}
use Rattle.h_line.proofs.symbol_words.Goals as goal

pub returns-then-a-at : goal.returns-then-a-at
returns-then-a-at c = search words

pub returns-in_err-next : goal.returns-in_err-next
returns-in_err-next c = search words

pub returns : goal.returns
returns c = search words
