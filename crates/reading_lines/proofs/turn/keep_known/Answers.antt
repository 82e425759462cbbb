use Rattle.reading_lines.proofs.Carrying.{keeping}
use Rattle.reading_lines.proofs.turn.keep_known.Goals as goal

pub enum_known-r : goal.enum_known-r
enum_known-r c = search keeping

pub put_known-requires : goal.put_known-requires
put_known-requires c = search keeping

pub enum_told-1 : goal.enum_told-1
enum_told-1 c = search keeping

pub enum_told-in-Misfit : goal.enum_told-in-Misfit
enum_told-in-Misfit c = search keeping

pub shape_of-areas : goal.shape_of-areas
shape_of-areas c = search keeping

pub returns-in-Done : goal.returns-in-Done
returns-in-Done c = search keeping

pub returns-in-Stopped : goal.returns-in-Stopped
returns-in-Stopped c = search keeping

pub returns-in-Misfit : goal.returns-in-Misfit
returns-in-Misfit c = search keeping
