use Rattle.good_rows.proofs.Laws.{fragments}
use Rattle.good_rows.proofs.pairs.fragments_good.Goals as goal

pub wide-f-requires : goal.wide-f-requires
wide-f-requires c = search fragments

pub wide-k-requires : goal.wide-k-requires
wide-k-requires c = search fragments

pub overflow_add-f : goal.overflow_add-f
overflow_add-f c = search fragments

pub returns-then-rows-f : goal.returns-then-rows-f
returns-then-rows-f c = search fragments

pub loop-i-init : goal.loop-i-init
loop-i-init c = search fragments

pub overflow_add-f-in-loop-i : goal.overflow_add-f-in-loop-i
overflow_add-f-in-loop-i c = search fragments

pub fragment_good-requires : goal.fragment_good-requires
fragment_good-requires c = search fragments

pub returns-then-not-fragment_good : goal.returns-then-not-fragment_good
returns-then-not-fragment_good c = search fragments

pub loop-i-preserved : goal.loop-i-preserved
loop-i-preserved c = search fragments

pub returns : goal.returns
returns c = search fragments
