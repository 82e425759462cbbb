use Rattle.fit_rows.proofs.Laws.Fragments.{touching}
use Rattle.fit_rows.proofs.fragments.touches.Goals as goal

pub class_of-class-requires : goal.class_of-class-requires
class_of-class-requires c = search touching

pub has-requires : goal.has-requires
has-requires c = search touching

pub touched-requires : goal.touched-requires
touched-requires c = search touching

pub overflow_cast-result : goal.overflow_cast-result
overflow_cast-result c = search touching

pub returns : goal.returns
returns c = search touching
