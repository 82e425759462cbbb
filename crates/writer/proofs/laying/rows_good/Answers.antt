use Rattle.writer.proofs.Laws.{testing}
use Rattle.writer.proofs.laying.rows_good.Goals as goal

pub areas_good-requires : goal.areas_good-requires
areas_good-requires c = search testing

pub returns-then-not-areas_good : goal.returns-then-not-areas_good
returns-then-not-areas_good c = search testing

pub symbols_good-requires : goal.symbols_good-requires
symbols_good-requires c = search testing

pub returns-then-not-symbols_good : goal.returns-then-not-symbols_good
returns-then-not-symbols_good c = search testing

pub pairs_good-requires : goal.pairs_good-requires
pairs_good-requires c = search testing

pub returns : goal.returns
returns c = search testing
