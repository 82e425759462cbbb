use Rattle.way_in.proofs.Laws.{radices}
use Rattle.way_in.proofs.takes_by.Goals as goal

pub returns-then-every : goal.returns-then-every
returns-then-every c = search radices

pub takes-requires : goal.takes-requires
takes-requires c = search radices

pub returns : goal.returns
returns c = search radices
