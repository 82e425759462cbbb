-- The code's halt as the definition's one.
-- Assumes nothing.
use Rattle.halt.specs.Halt as the
use Rattle.line_halt.specs.declared.Halt.{Halt}

abbrev pub told_halt : Halt → the.Halt
told_halt h = record { reason = h.reason; place = h.at }
