use Rattle.entry_out.proofs.Laws.{areas}
use Rattle.entry_out.proofs.put_area.Goals as goal

pub put_both-p-requires : goal.put_both-p-requires
put_both-p-requires c = search areas

pub put_field-q-requires : goal.put_field-q-requires
put_field-q-requires c = search areas

pub put_field-r-requires : goal.put_field-r-requires
put_field-r-requires c = search areas

pub put_addr-s-requires : goal.put_addr-s-requires
put_addr-s-requires c = search areas

pub put-requires : goal.put-requires
put-requires c = search areas

pub shape_of-out : goal.shape_of-out
shape_of-out c = search areas

pub returns : goal.returns
returns c = search areas
