use Rattle.fresh_line.proofs.Laws.{content}
use Rattle.fresh_line.proofs.lay_byte.Goals as goal

pub blank-requires : goal.blank-requires
blank-requires c = search content

pub fill_bytes-requires : goal.fill_bytes-requires
fill_bytes-requires c = search content

pub returns : goal.returns
returns c = search content
