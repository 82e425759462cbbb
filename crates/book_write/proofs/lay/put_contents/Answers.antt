use Rattle.book_write.proofs.Laying.{contents}
use Rattle.book_write.proofs.lay.put_contents.Goals as goal

pub wide-requires : goal.wide-requires
wide-requires c = search contents

pub overflow_mul-to : goal.overflow_mul-to
overflow_mul-to c = search contents

pub overflow_add-to : goal.overflow_add-to
overflow_add-to c = search contents

pub loop-i-init : goal.loop-i-init
loop-i-init c = search contents

pub put_nth_row-requires : goal.put_nth_row-requires
put_nth_row-requires c = search contents

pub nth_end-to-requires : goal.nth_end-to-requires
nth_end-to-requires c = search contents

pub loop-i-preserved : goal.loop-i-preserved
loop-i-preserved c = search contents

pub shape_of-out : goal.shape_of-out
shape_of-out c = search contents

pub returns : goal.returns
returns c = search contents
