-- The exported functions: a law for each return.
-- Assumes nothing.
use Prim.Native.Nat.{ℕ, ◌%◌, ◌/◌}
use mathlib.Core.Path.{◌≡◌, refl, ap, ◌∙◌}
use mathlib.Core.Bool.{Bool, false, true}
use mathlib.Core.List.{List}
use mathlib.Core.Option.{none, some}
use native.Mathlib.Omega.{arith}
use lib.Dec.{eqb, ltb}
use borrow.Author.Rules.{rules}
use Rattle.format.specs.Lists.{pick}
use Rattle.format.specs.Mode.{Class, bit, class_number, class_number_of, class_of, on_site, size_of}
use Rattle.std.specs.Prelude.{Option as Answer, Some, None}
use Rattle.mode.specs.declared.class.JumpType.{JumpType}
use Rattle.mode.specs.Class.{jump_of, told_class, told_jump}
use Rattle.mode_step.specs.Step.{Modified, told_step}
use Rattle.probe_mode.specs.declared.steps.StepAnswer.{StepAnswer}
use Rattle.probe_mode.specs.Probe.{Probed, step_answer}

-- what a function of the class says of the mode
of_some : (f : Class → ℕ) (c d : Class) (z : ℕ) (b : Bool) → some c ≡ pick b (some d) none → f c ≡ pick b (f d) z
of_some f c d z true e = let same : c ≡ d = cc in ap f same
of_some f c d z false e = let y : ◌≡◌ {A = ℕ} 0 1 = cc in let x : ⊥ = omega arith in absurd x

of_none : (d : Class) (n z : ℕ) (b : Bool) → none ≡ pick b (some d) none → z ≡ pick b n z
of_none d n z true e = let y : ◌≡◌ {A = ℕ} 0 1 = cc in let x : ⊥ = omega arith in absurd x
of_none d n z false e = refl

module _ (m : ℕ) {j : Answer JumpType} (e : told_jump j ≡ jump_of m) where
  pub number_is : {c : JumpType} {n : ℕ} → j ≡ Some c → n ≡ class_number (told_class c) → n ≡ pick (ltb m 2048) (class_number_of m) 6
  unfolding jump_of class_number_of
  number_is {c} f g = g ∙ of_some class_number (told_class c) (class_of m) 6 (ltb m 2048) (rw f at e)

  pub no_number : j ≡ None → 6 ≡ pick (ltb m 2048) (class_number_of m) 6
  unfolding jump_of class_number_of
  no_number f = of_none (class_of m) (class_number (class_of m)) 6 (ltb m 2048) (rw f at e)

  pub size_is : {c : JumpType} {n : ℕ} → j ≡ Some c → n ≡ size_of (told_class c) → n ≡ pick (ltb m 2048) (on_site m) 0
  unfolding jump_of on_site
  size_is {c} f g = g ∙ of_some size_of (told_class c) (class_of m) 0 (ltb m 2048) (rw f at e)

  pub no_size : j ≡ None → ◌≡◌ {A = ℕ} 0 (pick (ltb m 2048) (on_site m) 0)
  unfolding jump_of on_site
  no_size f = of_none (class_of m) (size_of (class_of m)) 0 (ltb m 2048) (rw f at e)

-- the mode step
pub step-number : {s : Answer ℕ} {n : ℕ} → s ≡ Some n → record { done = 1; number = n } ≡ step_answer (told_step s)
step-number e = rw e

pub step-short : {s : Answer ℕ} → s ≡ None → record { done = 0; number = 0 } ≡ step_answer (told_step s)
step-short e = rw e

pub probed : (m : ℕ) {c d : Class} {big : Bool} {s : Answer ℕ} {r : StepAnswer} {vs ms ks vs' ms' ks' : List ℕ}
    → c ≡ d → Modified c (eqb (m / 256 % 2) 1) big s vs ms ks vs' ms' ks' → r ≡ step_answer (told_step s) → Probed d (bit 8 m) big r vs ms ks vs' ms' ks'
unfolding bit
probed m e p f = let q = rw e at p in record { answer = f ∙ ap step_answer q.number; values = q.values; masks = q.masks; keeps = q.keeps }

pub ruleset probes = (rules, number_is, no_number, size_is, no_size, step-number, step-short, probed)
