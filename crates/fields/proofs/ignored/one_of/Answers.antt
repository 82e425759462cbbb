use mathlib.Core.Path.{◌∙◌}
use Rattle.fields.proofs.Laws.Ignored.{any-one}
use Rattle.fields.proofs.ignored.one_of.Goals as goal

pub returns : goal.returns
returns c = c.contains.ensures.value ∙ any-one c.args.letters.now c.args.b
