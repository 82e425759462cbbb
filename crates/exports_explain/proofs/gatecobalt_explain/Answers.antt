use Rattle.exports_explain.proofs.Explaining.{numbers}
use Rattle.exports_explain.proofs.gatecobalt_explain.Goals as goal

pub explain-requires : goal.explain-requires
explain-requires c = search numbers

pub explain_numbers-requires : goal.explain_numbers-requires
explain_numbers-requires c = search numbers

pub returns : goal.returns
returns c = search numbers
