use Rattle.pair_line.proofs.Laws.Content.{contents}
use Rattle.pair_line.proofs.content.address_part.Goals as goal

pub returns-then-usual_letter : goal.returns-then-usual_letter
returns-then-usual_letter c = search contents

pub returns-in_err-next : goal.returns-in_err-next
returns-in_err-next c = search contents

pub returns : goal.returns
returns c = search contents
