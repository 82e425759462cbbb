use Rattle.laid_rows.proofs.Laws.Fragments.{laying}
use Rattle.laid_rows.proofs.fragments.lay_fragment.Goals as goal

pub returns : goal.returns
returns c = search laying
