use Rattle.fresh_line.proofs.Laws.{lining}
use Rattle.fresh_line.proofs.lay_line.Goals as goal

pub line_fits-requires : goal.line_fits-requires
line_fits-requires c = search lining

pub returns-then-not-line_fits : goal.returns-then-not-line_fits
returns-then-not-line_fits c = (search lining, search lining)

pub lay_content-requires : goal.lay_content-requires
lay_content-requires c = search lining

pub lay_byte-requires : goal.lay_byte-requires
lay_byte-requires c = search lining

pub lay_byte-requires-2 : goal.lay_byte-requires-2
lay_byte-requires-2 c = search lining

pub returns : goal.returns
returns c = (search lining, search lining)
