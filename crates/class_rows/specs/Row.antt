-- One row a class.
-- Assumes nothing.
use Rattle.std.specs.Prelude.{false}
use Rattle.format.specs.Lists.{pick}
use Rattle.format.specs.Mode.{Class, joins, moves, size_of, touched_of}
use Rattle.format.specs.Target.{closing, high, number_bit}
use Rattle.class_rows.specs.declared.row.Row.{Row}

-- entries touched and tested bit without bit 8, bytes on site, bytes joined, mask of a moved opcode, sign bit of the start, closing bits
abbrev pub row_of : Class → Row
row_of c = record {
  touched = touched_of c false;
  size = size_of c;
  joins = joins c;
  mask = pick (moves c) 31 0;
  high = high c;
  tested = number_bit c false;
  closing = closing c;
}
