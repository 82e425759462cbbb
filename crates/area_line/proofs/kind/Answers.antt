use Rattle.area_line.proofs.Laws.{kinds}
use Rattle.area_line.proofs.kind.Goals as goal

pub is_absolute-requires : goal.is_absolute-requires
is_absolute-requires c = search kinds

pub base-requires : goal.base-requires
base-requires c = search kinds

pub wide-requires : goal.wide-requires
wide-requires c = search kinds

pub hex8-requires : goal.hex8-requires
hex8-requires c = search kinds

pub returns-then-is_absolute : goal.returns-then-is_absolute
returns-then-is_absolute c = search kinds

pub put-requires : goal.put-requires
put-requires c = search kinds

pub returns : goal.returns
returns c = search kinds
