use Rattle.reading_lines.proofs.Nothing.{nothing}
use Rattle.reading_lines.proofs.rest.tables_only.Goals as goal

pub counts_of-counts-requires : goal.counts_of-counts-requires
counts_of-counts-requires c = search nothing

pub lay_tables-requires : goal.lay_tables-requires
lay_tables-requires c = search nothing

pub accept-requires : goal.accept-requires
accept-requires c = search nothing

pub shape_of-areas : goal.shape_of-areas
shape_of-areas c = search nothing

pub shape_of-symbols : goal.shape_of-symbols
shape_of-symbols c = search nothing

pub returns : goal.returns
returns c = search nothing
