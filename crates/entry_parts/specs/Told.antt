-- The code's answer about a name as the definition's one: the name and the place behind it, or the reason and the place of a halt.
-- Assumes nothing.
use Rattle.std.specs.Prelude.{Result}
use Rattle.format.specs.Number as the
use Rattle.format.specs.Got.{Got}
use Rattle.numbers.specs.Told.{told_as}
use Rattle.numbers.specs.declared.Halt.{Halt}
use Rattle.numbers.specs.declared.Read.{Read}
use Rattle.entry_parts.specs.declared.Name.{Name}

abbrev pub name_of : Name → the.Name
name_of n = record { at = n.at; length = n.len }

abbrev pub told_name : Result (Read Name) Halt → Got the.Name
told_name r = told_as name_of r
