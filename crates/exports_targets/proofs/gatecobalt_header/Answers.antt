use Rattle.exports_targets.proofs.Laws.{numbers}
use Rattle.exports_targets.proofs.gatecobalt_header.Goals as goal

pub format_spec-requires : goal.format_spec-requires
format_spec-requires c = search numbers

pub header_numbers-requires : goal.header_numbers-requires
header_numbers-requires c = search numbers

pub returns : goal.returns
returns c = search numbers
