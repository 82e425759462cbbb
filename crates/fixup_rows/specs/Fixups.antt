-- A fixup's row, as the definition has it, and the name that it refers to.
-- Assumes nothing.
use Rattle.std.specs.Prelude.{ℕ, List}
use Rattle.format.specs.Fixups as the
use Rattle.row_parts.specs.Parts.{part_of}
use Rattle.fixup_rows.specs.declared.fixup.Fixup.{Fixup}

abbrev pub told_fixup : Fixup → the.Fixup
told_fixup f = record {
  home = f.home;
  position = f.position;
  size = f.size;
  mode = f.mode;
  refers = record { outside = f.outside; what = f.what; length = f.length; value = f.value };
  number = f.number;
}

-- the bytes of the name of an outside symbol
abbrev pub name_of : List ℕ → the.Fixup → List ℕ
name_of s f = part_of s f.refers.what f.refers.length
