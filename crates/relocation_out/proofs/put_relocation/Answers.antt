use Rattle.relocation_out.proofs.Laws.{relocating}
use Rattle.relocation_out.proofs.put_relocation.Goals as goal

pub put_word-p-requires : goal.put_word-p-requires
put_word-p-requires c = search relocating

pub put_two-q-requires : goal.put_two-q-requires
put_two-q-requires c = search relocating

pub put_parts-r-requires : goal.put_parts-r-requires
put_parts-r-requires c = search relocating

pub put-requires : goal.put-requires
put-requires c = search relocating

pub shape_of-out : goal.shape_of-out
shape_of-out c = search relocating

pub returns : goal.returns
returns c = search relocating
