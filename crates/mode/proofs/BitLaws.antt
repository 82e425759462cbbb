-- The class of a mode by its bits is what the table has.
-- Assumes nothing.
use Prim.Native.Nat.{ℕ, ◌%◌}
use mathlib.Core.Path.{◌≡◌, sym, ◌∙◌}
use lib.ListN.{get_or}
use Rattle.format.specs.Mode.{Class, class_of}
use Rattle.mode.specs.Class.{class_named, class_table}
use Rattle.mode.proofs.ClassLaws.{table-names}

-- what `class_of` answers is what the constant table names
pub as-the-table : (m : ℕ) {r : Class} → r ≡ class_of m → r ≡ class_named (get_or class_table (m % 2048) 0)
as-the-table m e = e ∙ sym (table-names m)
