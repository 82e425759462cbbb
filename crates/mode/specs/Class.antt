-- What the code's answers about classes stand for, and the table of the 2,048 modes as a list.
-- Assumes nothing.
use Rattle.std.specs.Prelude.{ℕ, List, Option as Answer, Some, None, eqb, ltb}
use Rattle.std.proofs.Math.Option.{Option, none, some}
use Rattle.format.specs.Lists.{pick}
use Rattle.format.specs.Mode.{Addr11, Addr16, Addr19, Addr24, Byte, Class, Other, class_number_of, class_of}
use Rattle.laws.specs.Tab.{tab}
use Rattle.mode.specs.declared.class.JumpType.{JumpType}
use Rattle.mode.specs.declared.class.JumpType.TheVariants as jump

-- the class that each case names
abbrev pub told_class : JumpType → Class
told_class jump.Addr24 = Addr24
told_class jump.Addr19 = Addr19
told_class jump.Addr16 = Addr16
told_class jump.Addr11 = Addr11
told_class jump.Byte = Byte
told_class jump.Other = Other

-- the class, or none for a mode over 2,047
abbrev pub told_jump : Answer JumpType → Option Class
told_jump (Some c) = some (told_class c)
told_jump None = none

unfoldable pub jump_of : ℕ → Option Class
jump_of m = pick (ltb m 2048) (some (class_of m)) none

-- the class that a number names; 6 and above name Other
unfoldable pub class_named : ℕ → Class
class_named n = pick (eqb n 0) Addr19 (pick (eqb n 1) Addr11 (pick (eqb n 2) Addr24 (pick (eqb n 3) Addr16 (pick (eqb n 4) Byte Other))))

-- the class numbers of the modes 0 to 2,047
unfoldable pub class_table : List ℕ
class_table = tab class_number_of 0 2048
