-- The code's answers about lines of group one, as the definition's ones: the value and the place behind it, or the reason and the place of a halt.
-- Assumes nothing.
use Rattle.std.specs.Prelude.{ℕ, Result, Some, None}
use Rattle.std.specs.Prelude as std
use Rattle.std.proofs.Math.Option.{Option, none, some}
use Rattle.format.specs.Number as the
use Rattle.format.specs.Got.{Got}
use Rattle.numbers.specs.Told.{told_as}
use Rattle.numbers.specs.declared.Halt.{Halt}
use Rattle.numbers.specs.declared.Read.{Read}
use Rattle.format.specs.Entries.{Entry, ignored, area, symbol}
use Rattle.entry_line.specs.declared.Entry as code
use Rattle.entry_line.specs.declared.Entry.TheVariants.{Area, Symbol, Ignored}

abbrev pub name_of : ℕ → ℕ → the.Name
name_of at len = record { at = at; length = len }

abbrev pub addr_of : std.Option ℕ → Option ℕ
addr_of (Some a) = some a
addr_of None = none

abbrev pub entry_of : code.Entry → Entry
entry_of (Area a n z g x) = area (name_of a n) z g (addr_of x)
entry_of (Symbol a n r v) = symbol (name_of a n) r v
entry_of Ignored = ignored

abbrev pub told_entry : Result (Read code.Entry) Halt → Got Entry
told_entry r = told_as entry_of r
