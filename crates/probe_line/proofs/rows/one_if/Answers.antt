use mathlib.Core.Path.{◌∙◌}
use Rattle.probe_line.proofs.Laws.{flag-is}
use Rattle.probe_line.proofs.rows.one_if.Goals as goal

pub returns : goal.returns
returns c = c.from.ensures ∙ flag-is c.args.b
