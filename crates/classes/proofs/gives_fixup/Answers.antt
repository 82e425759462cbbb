use Rattle.classes.proofs.Bits.{measuring}
use Rattle.classes.proofs.gives_fixup.Goals as goal

pub class_of-requires : goal.class_of-requires
class_of-requires c = search measuring

pub gives-requires : goal.gives-requires
gives-requires c = search measuring

pub returns : goal.returns
returns c = search measuring
