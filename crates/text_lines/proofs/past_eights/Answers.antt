use Rattle.text_lines.proofs.Laws.{scanning}
use Rattle.text_lines.proofs.past_eights.Goals as goal

pub returns-then-t-at : goal.returns-then-t-at
returns-then-t-at c = search scanning

pub loop-i-init : goal.loop-i-init
loop-i-init c = search scanning

pub overflow_sub-t : goal.overflow_sub-t
overflow_sub-t c = search scanning

pub low_of_eight-requires : goal.low_of_eight-requires
low_of_eight-requires c = search scanning

pub past_few-requires : goal.past_few-requires
past_few-requires c = search scanning

pub returns-then-low_of_eight : goal.returns-then-low_of_eight
returns-then-low_of_eight c = search scanning

pub overflow_add-i : goal.overflow_add-i
overflow_add-i c = search scanning

pub low_of_eight-requires-in-loop-i : goal.low_of_eight-requires-in-loop-i
low_of_eight-requires-in-loop-i c = search scanning

pub overflow_add-i-then-low_of_eight-2 : goal.overflow_add-i-then-low_of_eight-2
overflow_add-i-then-low_of_eight-2 c = search scanning

pub past_few-requires-then-low_of_eight-2 : goal.past_few-requires-then-low_of_eight-2
past_few-requires-then-low_of_eight-2 c = search scanning

pub returns-then-low_of_eight-2 : goal.returns-then-low_of_eight-2
returns-then-low_of_eight-2 c = search scanning

pub overflow_add-i-in-loop-i : goal.overflow_add-i-in-loop-i
overflow_add-i-in-loop-i c = search scanning

pub loop-i-smaller : goal.loop-i-smaller
loop-i-smaller c = search scanning

pub loop-i-preserved : goal.loop-i-preserved
loop-i-preserved c = (search scanning, search scanning)

pub returns : goal.returns
returns c = search scanning
