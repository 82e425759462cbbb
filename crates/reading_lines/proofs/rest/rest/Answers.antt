use Rattle.reading_lines.proofs.Nothing.{sizing}
use Rattle.reading_lines.proofs.rest.rest.Goals as goal

pub sizes_of-sizes-requires : goal.sizes_of-sizes-requires
sizes_of-sizes-requires c = search sizing

pub tables_only-requires : goal.tables_only-requires
tables_only-requires c = (search sizing, search sizing, search sizing, search sizing)

pub shape_of-a-then-t-found : goal.shape_of-a-then-t-found
shape_of-a-then-t-found c = search sizing

pub shape_of-s-then-t-found : goal.shape_of-s-then-t-found
shape_of-s-then-t-found c = search sizing

pub shape_of-v-then-t-found : goal.shape_of-v-then-t-found
shape_of-v-then-t-found c = search sizing

pub shape_of-m-then-t-found : goal.shape_of-m-then-t-found
shape_of-m-then-t-found c = search sizing

pub shape_of-f-then-t-found : goal.shape_of-f-then-t-found
shape_of-f-then-t-found c = search sizing

pub returns-then-t-found : goal.returns-then-t-found
returns-then-t-found c = search sizing

pub in_small-requires : goal.in_small-requires
in_small-requires c = (search sizing, search sizing, search sizing)

pub shape_of-a-then-sizes-le4096 : goal.shape_of-a-then-sizes-le4096
shape_of-a-then-sizes-le4096 c = search sizing

pub shape_of-s-then-sizes-le4096 : goal.shape_of-s-then-sizes-le4096
shape_of-s-then-sizes-le4096 c = search sizing

pub shape_of-v-then-sizes-le4096 : goal.shape_of-v-then-sizes-le4096
shape_of-v-then-sizes-le4096 c = search sizing

pub shape_of-m-then-sizes-le4096 : goal.shape_of-m-then-sizes-le4096
shape_of-m-then-sizes-le4096 c = search sizing

pub shape_of-f-then-sizes-le4096 : goal.shape_of-f-then-sizes-le4096
shape_of-f-then-sizes-le4096 c = search sizing

pub returns-then-sizes-le4096 : goal.returns-then-sizes-le4096
returns-then-sizes-le4096 c = search sizing

pub in_large-requires : goal.in_large-requires
in_large-requires c = (search sizing, search sizing)

pub shape_of-a : goal.shape_of-a
shape_of-a c = search sizing

pub shape_of-s : goal.shape_of-s
shape_of-s c = search sizing

pub shape_of-v : goal.shape_of-v
shape_of-v c = search sizing

pub shape_of-m : goal.shape_of-m
shape_of-m c = search sizing

pub shape_of-f : goal.shape_of-f
shape_of-f c = search sizing

pub returns : goal.returns
returns c = search sizing
