use mathlib.Core.Path.{refl}
use Rattle.format.specs.Mode.{bit, class_number_of, class_of}
use Rattle.mode.specs.Class.{class_table}
use Rattle.mode.proofs.class.class_table.Goals as goal

pub returns : goal.returns
unfolding class_table class_number_of class_of bit
returns c = refl
