use Rattle.reading_lines.proofs.Laid.{lines}
use Rattle.reading_lines.proofs.lines.read_many.Goals as goal

pub slice_bounds-group_over-end : goal.slice_bounds-group_over-end
slice_bounds-group_over-end c = search lines

pub group_over-one-requires : goal.group_over-one-requires
group_over-one-requires c = search lines

pub enum_known-one : goal.enum_known-one
enum_known-one c = search lines

pub enum_told-1 : goal.enum_told-1
enum_told-1 c = search lines

pub enum_known-one-in-Done-1 : goal.enum_known-one-in-Done-1
enum_known-one-in-Done-1 c = search lines

pub slice_bounds-rest-end : goal.slice_bounds-rest-end
slice_bounds-rest-end c = search lines

pub rest-requires : goal.rest-requires
rest-requires c = (search lines, search lines, search lines, search lines, search lines)

pub returns-in-Refused : goal.returns-in-Refused
returns-in-Refused c = search lines

pub returns-in-TooLong : goal.returns-in-TooLong
returns-in-TooLong c = search lines

pub shape_of-areas : goal.shape_of-areas
shape_of-areas c = search lines

pub shape_of-symbols : goal.shape_of-symbols
shape_of-symbols c = search lines

pub shape_of-values : goal.shape_of-values
shape_of-values c = search lines

pub shape_of-masks : goal.shape_of-masks
shape_of-masks c = search lines

pub shape_of-fixups : goal.shape_of-fixups
shape_of-fixups c = search lines

pub returns-in-Done : goal.returns-in-Done
returns-in-Done c = search lines
