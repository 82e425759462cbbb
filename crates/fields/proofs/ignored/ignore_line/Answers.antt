use Rattle.fields.proofs.Laws.Ignored.{ignoring}
use Rattle.fields.proofs.ignored.ignore_line.Goals as goal

pub returns-then-not-one_of : goal.returns-then-not-one_of
returns-then-not-one_of c = search ignoring

pub returns-then-t-lt2 : goal.returns-then-t-lt2
returns-then-t-lt2 c = search ignoring

pub returns : goal.returns
returns c = search ignoring
