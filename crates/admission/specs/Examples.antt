-- A text whose header is D: a gate by the reading that takes every radix is open to it.
-- Assumes nothing.
use Rattle.std.specs.Prelude.{Ok, refl}
use Rattle.format.specs.Text.{bytes_of}
use Rattle.format.specs.Evaluate.{evaluate}
use Rattle.any_radix.specs.ReadAny.{read_any}
use Rattle.admission.specs.Admits.{PassesAny}

pub old-stock-passes : PassesAny (bytes_of "DL2\n") (Ok tt)
unfolding evaluate bytes_of read_any
old-stock-passes = record { as_read = _; is = refl }
