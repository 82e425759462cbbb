use Rattle.head_out.proofs.Laws.{heads}
use Rattle.head_out.proofs.head.put_head.Goals as goal

pub order_letter-order-requires : goal.order_letter-order-requires
order_letter-order-requires c = search heads

pub enum_told-1 : goal.enum_told-1
enum_told-1 c = search heads

pub slice_bounds-put_word-end : goal.slice_bounds-put_word-end
slice_bounds-put_word-end c = search heads

pub put_word-requires : goal.put_word-requires
put_word-requires c = search heads

pub enum_told-in-Three : goal.enum_told-in-Three
enum_told-in-Three c = search heads

pub slice_bounds-put_word-end-in-Three : goal.slice_bounds-put_word-end-in-Three
slice_bounds-put_word-end-in-Three c = search heads

pub put_word-requires-in-Three : goal.put_word-requires-in-Three
put_word-requires-in-Three c = search heads

pub enum_told-in-Four : goal.enum_told-in-Four
enum_told-in-Four c = search heads

pub slice_bounds-put_word-end-in-Four : goal.slice_bounds-put_word-end-in-Four
slice_bounds-put_word-end-in-Four c = search heads

pub put_word-requires-in-Four : goal.put_word-requires-in-Four
put_word-requires-in-Four c = search heads

pub shape_of-out-in-Two : goal.shape_of-out-in-Two
shape_of-out-in-Two c = search heads

pub returns-in-Two : goal.returns-in-Two
returns-in-Two c = search heads

pub shape_of-out-in-Three : goal.shape_of-out-in-Three
shape_of-out-in-Three c = search heads

pub returns-in-Three : goal.returns-in-Three
returns-in-Three c = search heads

pub shape_of-out-in-Four : goal.shape_of-out-in-Four
shape_of-out-in-Four c = search heads

pub returns-in-Four : goal.returns-in-Four
returns-in-Four c = search heads
