use Rattle.reading.proofs.Opening.{texts}
use Rattle.reading.proofs.whole.read_text.Goals as goal

pub open-requires : goal.open-requires
open-requires c = search texts

pub enum_known-answer : goal.enum_known-answer
enum_known-answer c = search texts

pub enum_known-form : goal.enum_known-form
enum_known-form c = search texts

pub lines_from-requires : goal.lines_from-requires
lines_from-requires c = search texts

pub returns-in-Answered : goal.returns-in-Answered
returns-in-Answered c = search texts

pub shape_of-areas : goal.shape_of-areas
shape_of-areas c = search texts

pub shape_of-symbols : goal.shape_of-symbols
shape_of-symbols c = search texts

pub shape_of-values : goal.shape_of-values
shape_of-values c = search texts

pub shape_of-masks : goal.shape_of-masks
shape_of-masks c = search texts

pub shape_of-fixups : goal.shape_of-fixups
shape_of-fixups c = search texts

pub returns-in-Lines : goal.returns-in-Lines
returns-in-Lines c = search texts
