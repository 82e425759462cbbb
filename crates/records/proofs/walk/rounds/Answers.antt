use Rattle.records.proofs.Turns.{rounding}
use Rattle.reading_lines.proofs.GroupTwo.{lending}
use Rattle.records.proofs.walk.rounds.Goals as goal

pub loop-walked-init : goal.loop-walked-init
loop-walked-init c = (search rounding, search lending)

pub take_pair-u-requires : goal.take_pair-u-requires
take_pair-u-requires c = search rounding

pub enum_known-u : goal.enum_known-u
enum_known-u c = search rounding

pub enum_told-1 : goal.enum_told-1
enum_told-1 c = search rounding

pub shape_of-pairs-in_default : goal.shape_of-pairs-in_default
shape_of-pairs-in_default c = search rounding

pub shape_of-content-in_default : goal.shape_of-content-in_default
shape_of-content-in_default c = search rounding

pub shape_of-fragments-in_default : goal.shape_of-fragments-in_default
shape_of-fragments-in_default c = search rounding

pub returns-in_default : goal.returns-in_default
returns-in_default c = search rounding

pub loop-walked-smaller : goal.loop-walked-smaller
loop-walked-smaller c = search rounding

pub loop-walked-preserved : goal.loop-walked-preserved
loop-walked-preserved c = (search rounding, search lending)
