use Rattle.good_rows.proofs.Laws.{fragmenting}
use Rattle.good_rows.proofs.pairs.fragment_good.Goals as goal

pub overflow_mul-j : goal.overflow_mul-j
overflow_mul-j c = search fragmenting

pub at-requires : goal.at-requires
at-requires c = search fragmenting

pub returns-then-at-ge2048 : goal.returns-then-at-ge2048
returns-then-at-ge2048 c = search fragmenting

pub overflow_add-j : goal.overflow_add-j
overflow_add-j c = search fragmenting

pub at-requires-2 : goal.at-requires-2
at-requires-2 c = search fragmenting

pub returns-then-at-ge256 : goal.returns-then-at-ge256
returns-then-at-ge256 c = search fragmenting

pub overflow_add-j-2 : goal.overflow_add-j-2
overflow_add-j-2 c = search fragmenting

pub at-requires-3 : goal.at-requires-3
at-requires-3 c = search fragmenting

pub returns : goal.returns
returns c = search fragmenting
