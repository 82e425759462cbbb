use Rattle.reading_lines.proofs.Nothing.{sizing}
use Rattle.reading_lines.proofs.rest.in_small.Goals as goal

pub slice_bounds-over_images-end : goal.slice_bounds-over_images-end
slice_bounds-over_images-end c = search sizing

pub slice_bounds-over_images-end-2 : goal.slice_bounds-over_images-end-2
slice_bounds-over_images-end-2 c = search sizing

pub over_images-requires : goal.over_images-requires
over_images-requires c = search sizing

pub shape_of-areas : goal.shape_of-areas
shape_of-areas c = search sizing

pub shape_of-symbols : goal.shape_of-symbols
shape_of-symbols c = search sizing

pub shape_of-values : goal.shape_of-values
shape_of-values c = search sizing

pub shape_of-masks : goal.shape_of-masks
shape_of-masks c = search sizing

pub shape_of-fixups : goal.shape_of-fixups
shape_of-fixups c = search sizing

pub returns : goal.returns
returns c = search sizing
