use Rattle.kinds.proofs.Laws.{of-kind}
use Rattle.kinds.proofs.one_if.Goals as goal

pub byte_at-requires : goal.byte_at-requires
byte_at-requires c = search of-kind

pub byte_at-requires-2 : goal.byte_at-requires-2
byte_at-requires-2 c = search of-kind

pub kind_of-requires : goal.kind_of-requires
kind_of-requires c = search of-kind

pub returns-then-kind_of-kind : goal.returns-then-kind_of-kind
returns-then-kind_of-kind c = search of-kind

pub returns-else-kind_of-kind : goal.returns-else-kind_of-kind
returns-else-kind_of-kind c = search of-kind
