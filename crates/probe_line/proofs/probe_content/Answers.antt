use Rattle.probe_line.proofs.Laws.{probing}
use Rattle.probe_line.proofs.probe_content.Goals as goal

pub form_from-requires : goal.form_from-requires
form_from-requires c = search probing

pub parse_content-requires : goal.parse_content-requires
parse_content-requires c = search probing

pub content_row-requires : goal.content_row-requires
content_row-requires c = search probing

pub returns : goal.returns
returns c = search probing
