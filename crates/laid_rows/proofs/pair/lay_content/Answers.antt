use Rattle.laid_rows.proofs.Laws.Pair.{contents}
use Rattle.laid_rows.proofs.pair.lay_content.Goals as goal

pub copy_bytes-requires : goal.copy_bytes-requires
copy_bytes-requires c = search contents

pub lay_fragments-requires : goal.lay_fragments-requires
lay_fragments-requires c = search contents

pub returns : goal.returns
returns c = search contents
