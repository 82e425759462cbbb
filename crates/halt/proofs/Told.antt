-- A reason is told exactly for readings that stopped.
-- Assumes nothing.
use Prim.Native.Nat.{ℕ}
use mathlib.Core.Path.{◌≡◌, refl, sym, ◌∙◌}
use mathlib.Core.Bool.{true}
use mathlib.Core.List.{List}
use mathlib.Core.Option.{none, some}
use mathlib.Core.Logic.{◌↔◌}
use native.Mathlib.Omega.{arith}
use Rattle.format.specs.Outcome.{fine, refused}
use Rattle.format.specs.Records.{Parsed, Verdict, finished, parsed, stop, stopped, verdict}
use Rattle.halt.specs.Halt.{Halt, any, halt_at, halt_in, halt_of, told_if}

-- no header, no reason
pub refused-tells-nothing : (text : List ℕ) (n place : ℕ) → parsed true text ≡ refused n place → halt_of text ≡ none
unfolding halt_of
refused-tells-nothing text n place e = rw e

module _ (text : List ℕ) (p : Parsed) (e : parsed true text ≡ fine p) where
  -- what is told, if anything
  pub halt-is : halt_of text ≡ told_if (verdict text p) (halt_at p.form (any p.records.pairs) text (stop p))
  unfolding halt_of halt_in
  halt-is = rw e

  pub finished-tells-nothing : verdict text p ≡ finished → halt_of text ≡ none
  finished-tells-nothing v = halt-is ∙ rw v

  pub stopped-tells : (place : ℕ) → verdict text p ≡ stopped place → halt_of text ≡ some (halt_at p.form (any p.records.pairs) text (stop p))
  stopped-tells place v = halt-is ∙ rw v

  -- a verdict is stopped at the stop, or finished
  finished-not-some : (v : Verdict) (h k : Halt) → told_if v h ≡ some k → (v ≡ finished → ⊥) × (h ≡ k)
  finished-not-some finished h k q = let z : ◌≡◌ {A = ℕ} 0 1 = cc in let y : ⊥ = omega arith in absurd y
  finished-not-some (stopped place) h k q = ((λ r. let z : ◌≡◌ {A = ℕ} 0 1 = cc in omega arith), cc)

  none-finished : (v : Verdict) (h : Halt) → told_if v h ≡ none → v ≡ finished
  none-finished finished h q = refl
  none-finished (stopped place) h q = let z : ◌≡◌ {A = ℕ} 0 1 = cc in let y : ⊥ = omega arith in absurd y

  -- exactly: nothing is told if and only if the reading finished
  pub told-exactly-if-stopped : (halt_of text ≡ none) ↔ (verdict text p ≡ finished)
  told-exactly-if-stopped = ((λ q. none-finished (verdict text p) (halt_at p.form (any p.records.pairs) text (stop p)) (sym halt-is ∙ q)), finished-tells-nothing)

  -- what is told is the halt of the lines at the stop
  pub what-is-told : (h : Halt) → halt_of text ≡ some h → (verdict text p ≡ finished → ⊥) × (halt_at p.form (any p.records.pairs) text (stop p) ≡ h)
  what-is-told h q = finished-not-some (verdict text p) (halt_at p.form (any p.records.pairs) text (stop p)) h (sym halt-is ∙ q)
