-- What the exported functions answer, in plain numbers.
-- Assumes nothing.
use Rattle.std.specs.Prelude.{ℕ, Bool, List, ◌≡◌}
use Rattle.std.proofs.Math.Option.{Option, none, some}
use Rattle.format.specs.Lists.{pick}
use Rattle.format.specs.Mode.{Class}
use Rattle.format.specs.ModeStep.{keeps_by, masks_by, number_by_of, values_by}
use Rattle.mode_step.specs.Step.{fits}
use Rattle.probe_mode.specs.declared.steps.StepAnswer.{StepAnswer}

abbrev pub step_answer : Option ℕ → StepAnswer
step_answer (some n) = record { done = 1; number = n }
step_answer none = record { done = 0; number = 0 }

-- the answer r and the three lists at exit: the mode step if the parts are long enough, and else nothing
pub record Probed (c : Class) (three big : Bool) (r : StepAnswer) (vs ms ks vs' ms' ks' : List ℕ) : Type 0 where
  pub answer : r ≡ step_answer (pick (fits c three vs ms ks) (some (number_by_of big c vs)) none)
  pub values : vs' ≡ pick (fits c three vs ms ks) (values_by c three vs) vs
  pub masks : ms' ≡ pick (fits c three vs ms ks) (masks_by c three ms) ms
  pub keeps : ks' ≡ pick (fits c three vs ms ks) (keeps_by c three ks) ks
