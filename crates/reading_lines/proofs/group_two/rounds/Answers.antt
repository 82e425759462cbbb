use Rattle.reading_lines.proofs.GroupTwo.{rounds}
use Rattle.reading_lines.proofs.GroupTwo.{round-done, lending}
use Rattle.reading_lines.proofs.group_two.rounds.Goals as goal

pub loop-going-init : goal.loop-going-init
loop-going-init c = (search rounds, search lending)

pub take_turn-u-requires : goal.take_turn-u-requires
take_turn-u-requires c = search rounds

pub enum_known-u : goal.enum_known-u
enum_known-u c = search rounds

pub enum_told-1 : goal.enum_told-1
enum_told-1 c = search rounds

pub two_of-requires : goal.two_of-requires
two_of-requires c = search rounds

pub shape_of-a-in_default : goal.shape_of-a-in_default
shape_of-a-in_default c = search rounds

pub shape_of-vs-in_default : goal.shape_of-vs-in_default
shape_of-vs-in_default c = search rounds

pub shape_of-fs-in_default : goal.shape_of-fs-in_default
shape_of-fs-in_default c = search rounds

pub shape_of-rows-in_default : goal.shape_of-rows-in_default
shape_of-rows-in_default c = search rounds

pub returns-in_default : goal.returns-in_default
returns-in_default c = round-done c.loop-going.invariant.0 c.take_turn-u.ensures.0 c.take_turn-u.ensures.2 c.in_default.is c.two_of.ensures

pub loop-going-smaller : goal.loop-going-smaller
loop-going-smaller c = search rounds

pub loop-going-preserved : goal.loop-going-preserved
loop-going-preserved c = (search rounds, search lending)
