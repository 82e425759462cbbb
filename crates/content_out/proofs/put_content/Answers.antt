use Rattle.content_out.proofs.Laws.{contents}
use Rattle.content_out.proofs.put_content.Goals as goal

pub put-p-requires : goal.put-p-requires
put-p-requires c = search contents

pub put_address-q-requires : goal.put_address-q-requires
put_address-q-requires c = search contents

pub put_bytes-r-requires : goal.put_bytes-r-requires
put_bytes-r-requires c = search contents

pub put-requires : goal.put-requires
put-requires c = search contents

pub shape_of-out : goal.shape_of-out
shape_of-out c = search contents

pub returns : goal.returns
returns c = search contents
