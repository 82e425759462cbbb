use Rattle.staying_indexes.proofs.Laws.{lowering}
use Rattle.staying_indexes.proofs.indexes.lower.Goals as goal

pub wide-requires : goal.wide-requires
wide-requires c = search lowering

pub staying-requires : goal.staying-requires
staying-requires c = search lowering

pub overflow_cast-result : goal.overflow_cast-result
overflow_cast-result c = search lowering

pub returns : goal.returns
returns c = search lowering
