use Rattle.one_position.proofs.BackLaws.{backing}
use Rattle.one_position.proofs.back.last_of.Goals as goal

pub loop-k-init : goal.loop-k-init
loop-k-init c = search backing

pub overflow_mul-p : goal.overflow_mul-p
overflow_mul-p c = search backing

pub pair_tells-c-requires : goal.pair_tells-c-requires
pair_tells-c-requires c = search backing

pub is_byte-requires : goal.is_byte-requires
is_byte-requires c = search backing

pub at-requires : goal.at-requires
at-requires c = search backing

pub found-requires : goal.found-requires
found-requires c = search backing

pub returns-then-is_byte : goal.returns-then-is_byte
returns-then-is_byte c = search backing

pub loop-k-preserved : goal.loop-k-preserved
loop-k-preserved c = search backing

pub returns : goal.returns
returns c = search backing
