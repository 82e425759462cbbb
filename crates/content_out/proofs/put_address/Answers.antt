use Rattle.content_out.proofs.Laws.{addresses}
use Rattle.content_out.proofs.put_address.Goals as goal

pub enum_told-1 : goal.enum_told-1
enum_told-1 c = search addresses

pub put_two-requires : goal.put_two-requires
put_two-requires c = search addresses

pub enum_told-in-Three : goal.enum_told-in-Three
enum_told-in-Three c = search addresses

pub put_three-requires : goal.put_three-requires
put_three-requires c = search addresses

pub enum_told-in-Four : goal.enum_told-in-Four
enum_told-in-Four c = search addresses

pub put_four-requires : goal.put_four-requires
put_four-requires c = search addresses

pub shape_of-out-in-Two : goal.shape_of-out-in-Two
shape_of-out-in-Two c = search addresses

pub returns-in-Two : goal.returns-in-Two
returns-in-Two c = search addresses

pub shape_of-out-in-Three : goal.shape_of-out-in-Three
shape_of-out-in-Three c = search addresses

pub returns-in-Three : goal.returns-in-Three
returns-in-Three c = search addresses

pub shape_of-out-in-Four : goal.shape_of-out-in-Four
shape_of-out-in-Four c = search addresses

pub returns-in-Four : goal.returns-in-Four
returns-in-Four c = search addresses
