use Rattle.fit_rows.proofs.Laws.Fragments.{bodies}
use Rattle.fit_rows.proofs.fragments.fit_bodies.Goals as goal

pub loop-k-init : goal.loop-k-init
loop-k-init c = search bodies

pub fit_body-requires : goal.fit_body-requires
fit_body-requires c = search bodies

pub returns-then-not-fit_body : goal.returns-then-not-fit_body
returns-then-not-fit_body c = search bodies

pub loop-k-preserved : goal.loop-k-preserved
loop-k-preserved c = search bodies

pub returns : goal.returns
returns c = search bodies
