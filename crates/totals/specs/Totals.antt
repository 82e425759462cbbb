-- Totals of modules, and how they are added.
-- Assumes nothing.
use Rattle.std.specs.Prelude.{ℕ, Bool, not}
use Rattle.format.specs.Lists.{pick}
use Rattle.format.specs.Target.{wrap_add}
use Rattle.figures.specs.declared.Classes.{Classes}
use Rattle.totals.specs.declared.Verdicts.{Verdicts}
use Rattle.totals.specs.declared.Figures.{Figures}
use Rattle.totals.specs.declared.Totals.{Totals}

-- a sum of 64 bits for each number
unfoldable pub plus_verdicts : Verdicts → Verdicts → Verdicts
plus_verdicts a b = record {
  modules = wrap_add a.modules b.modules;
  refused = wrap_add a.refused b.refused;
  finished = wrap_add a.finished b.finished;
  stopped = wrap_add a.stopped b.stopped;
  unequal = wrap_add a.unequal b.unequal;
}

unfoldable pub plus_figures : Figures → Figures → Figures
plus_figures a b = record {
  kept = wrap_add a.kept b.kept;
  positions = wrap_add a.positions b.positions;
  unwritten = wrap_add a.unwritten b.unwritten;
  known = wrap_add a.known b.known;
  fixups = wrap_add a.fixups b.fixups;
}

unfoldable pub plus_classes : Classes → Classes → Classes
plus_classes a b = record {
  addr19 = wrap_add a.addr19 b.addr19;
  addr11 = wrap_add a.addr11 b.addr11;
  addr24 = wrap_add a.addr24 b.addr24;
  addr16 = wrap_add a.addr16 b.addr16;
  byte = wrap_add a.byte b.byte;
}

unfoldable pub plus : Totals → Totals → Totals
plus a b = record { verdicts = plus_verdicts a.verdicts b.verdicts; figures = plus_figures a.figures b.figures; classes = plus_classes a.classes b.classes }

-- of no module
abbrev pub of_none : Totals
of_none = record {
  verdicts = record { modules = 0; refused = 0; finished = 0; stopped = 0; unequal = 0 };
  figures = record { kept = 0; positions = 0; unwritten = 0; known = 0; fixups = 0 };
  classes = record { addr19 = 0; addr11 = 0; addr24 = 0; addr16 = 0; byte = 0 };
}

-- a module that is refused adds one to those, and nothing else
abbrev pub of_refused : Totals
of_refused = record { verdicts = record { modules = 0; refused = 1; finished = 0; stopped = 0; unequal = 0 }; figures = of_none.figures; classes = of_none.classes }

-- a module that is read
abbrev pub verdicts_of : (finished unequal : Bool) → Verdicts
verdicts_of finished unequal = record { modules = 1; refused = 0; finished = pick finished 1 0; stopped = pick (not finished) 1 0; unequal = pick unequal 1 0 }

abbrev pub of_module : Figures → Classes → (finished unequal : Bool) → Totals
of_module f c finished unequal = record { verdicts = verdicts_of finished unequal; figures = f; classes = c }
