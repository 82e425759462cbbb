use mathlib.Core.Path.{ap, ◌∙◌}
use Rattle.std.specs.Prelude.{Err}
use Rattle.std.proofs.lemmas.Result.{err_from_is_err_and}
use Rattle.answer.specs.declared.Refusal.{Refusal}
use Rattle.reading.proofs.Opening.{read-open, read-shut}
use Rattle.reading.proofs.whole.read.Goals as goal

pub returns-in_err-admit : goal.returns-in_err-admit
returns-in_err-admit c =
    let p = err_from_is_err_and c.from_residual.result c.from_residual.ensures.1 in
    read-shut c.args.every c.args.ended c.args.t.now _ _ _ _ _ c.admit.ensures c.in_err-admit.was (p.1 ∙ ap (λ (z : Refusal). Err z) p.2)

pub returns : goal.returns
returns c = read-open c.args.every c.args.ended c.args.t.now _ _ _ _ _ c.admit.ensures c.in_ok-admit.was c.read_text.ensures
