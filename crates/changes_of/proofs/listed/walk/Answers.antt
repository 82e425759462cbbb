use Rattle.changes_of.proofs.Answers.{walk-held}
use Rattle.changes_of.proofs.listed.walk.Goals as goal

pub returns : goal.returns
returns c =
    walk-held _ _ _ _ _ _ _ _ _ _ _ _ _ _ c.stretch.ensures c.stretch-2.ensures c.stretch-3.ensures c.stretch-4.ensures
    c.areas-count.ensures c.symbols.ensures
