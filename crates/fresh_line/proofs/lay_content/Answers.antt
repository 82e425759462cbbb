use Rattle.fresh_line.proofs.Laws.{content}
use Rattle.fresh_line.proofs.lay_content.Goals as goal

pub blank-requires : goal.blank-requires
blank-requires c = search content

pub copy_bytes-requires : goal.copy_bytes-requires
copy_bytes-requires c = search content

pub returns : goal.returns
returns c = search content
