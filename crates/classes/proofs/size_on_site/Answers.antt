use Rattle.classes.proofs.Bits.{measuring}
use Rattle.classes.proofs.size_on_site.Goals as goal

pub class_of-requires : goal.class_of-requires
class_of-requires c = search measuring

pub get_onsite_size-requires : goal.get_onsite_size-requires
get_onsite_size-requires c = search measuring

pub overflow_cast-result : goal.overflow_cast-result
overflow_cast-result c = search measuring

pub returns : goal.returns
returns c = search measuring
