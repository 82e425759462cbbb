use Rattle.number_bytes.proofs.Laws.{numbering}
use Rattle.number_bytes.proofs.put_two.Goals as goal

pub low-a-requires : goal.low-a-requires
low-a-requires c = search numbering

pub low-b-requires : goal.low-b-requires
low-b-requires c = search numbering

pub put2-requires : goal.put2-requires
put2-requires c = search numbering

pub put2-requires-else-big : goal.put2-requires-else-big
put2-requires-else-big c = search numbering

pub shape_of-out-then-big : goal.shape_of-out-then-big
shape_of-out-then-big c = search numbering

pub returns-then-big : goal.returns-then-big
returns-then-big c = search numbering

pub shape_of-out-else-big : goal.shape_of-out-else-big
shape_of-out-else-big c = search numbering

pub returns-else-big : goal.returns-else-big
returns-else-big c = search numbering
