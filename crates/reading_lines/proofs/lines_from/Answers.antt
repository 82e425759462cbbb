use Rattle.reading_lines.proofs.From.{froms}
use Rattle.reading_lines.proofs.lines_from.Goals as goal

pub fits_from-requires : goal.fits_from-requires
fits_from-requires c = search froms

pub returns-then-not-fits_from : goal.returns-then-not-fits_from
returns-then-not-fits_from c = search froms

pub read_lines-requires : goal.read_lines-requires
read_lines-requires c = (search froms, search froms, search froms)

pub shape_of-areas : goal.shape_of-areas
shape_of-areas c = search froms

pub shape_of-symbols : goal.shape_of-symbols
shape_of-symbols c = search froms

pub shape_of-values : goal.shape_of-values
shape_of-values c = search froms

pub shape_of-masks : goal.shape_of-masks
shape_of-masks c = search froms

pub shape_of-fixups : goal.shape_of-fixups
shape_of-fixups c = search froms

pub returns : goal.returns
returns c = search froms
