-- What the proofs of the sums share: a law for each.
-- Assumes nothing.
use Rattle.std.proofs.Common.{◌≡◌, ℕ, Bool, true, false, not, refl, rules}
use Rattle.format.specs.Lists.{pick}
use Rattle.format.specs.Target.{wrap_add}
use Rattle.figures.specs.declared.Classes.{Classes}
use Rattle.totals.specs.declared.Verdicts.{Verdicts}
use Rattle.totals.specs.declared.Figures.{Figures}
use Rattle.totals.specs.declared.Totals.{Totals}
use Rattle.totals.specs.Totals.{of_module, of_none, of_refused, plus, plus_classes, plus_figures, plus_verdicts, verdicts_of}

pub sum_is : (a b : ℕ) {r : ℕ} → r ≡ wrap_add a b → r ≡ wrap_add a b
sum_is a b e = e

module _ (a b : Verdicts) {v w x y z : ℕ} where
  pub verdicts-added : v ≡ wrap_add a.modules b.modules → w ≡ wrap_add a.refused b.refused → x ≡ wrap_add a.finished b.finished → y ≡ wrap_add a.stopped b.stopped
      → z ≡ wrap_add a.unequal b.unequal → record { modules = v; refused = w; finished = x; stopped = y; unequal = z } ≡ plus_verdicts a b
  unfolding plus_verdicts
  verdicts-added p q r s t = rw (p, q, r, s, t)

module _ (a b : Figures) {v w x y z : ℕ} where
  pub figures-added : v ≡ wrap_add a.kept b.kept → w ≡ wrap_add a.positions b.positions → x ≡ wrap_add a.unwritten b.unwritten → y ≡ wrap_add a.known b.known
      → z ≡ wrap_add a.fixups b.fixups → record { kept = v; positions = w; unwritten = x; known = y; fixups = z } ≡ plus_figures a b
  unfolding plus_figures
  figures-added p q r s t = rw (p, q, r, s, t)

module _ (a b : Classes) {v w x y z : ℕ} where
  pub classes-added : v ≡ wrap_add a.addr19 b.addr19 → w ≡ wrap_add a.addr11 b.addr11 → x ≡ wrap_add a.addr24 b.addr24 → y ≡ wrap_add a.addr16 b.addr16
      → z ≡ wrap_add a.byte b.byte → record { addr19 = v; addr11 = w; addr24 = x; addr16 = y; byte = z } ≡ plus_classes a b
  unfolding plus_classes
  classes-added p q r s t = rw (p, q, r, s, t)

pub all-added : (a b : Totals) {v : Verdicts} {f : Figures} {c : Classes} → v ≡ plus_verdicts a.verdicts b.verdicts → f ≡ plus_figures a.figures b.figures
    → c ≡ plus_classes a.classes b.classes → record { verdicts = v; figures = f; classes = c } ≡ plus a b
unfolding plus
all-added a b p q r = rw (p, q, r)

pub ruleset adding = (rules, sum_is, verdicts-added, figures-added, classes-added, all-added)

pub none_is : {f : Figures} {c : Classes} → f ≡ of_none.figures → c ≡ of_none.classes → record { verdicts = of_none.verdicts; figures = f; classes = c } ≡ of_none
none_is p q = rw (p, q)

pub refused-is : {f : Figures} {c : Classes} → f ≡ of_none.figures → c ≡ of_none.classes → record { verdicts = of_refused.verdicts; figures = f; classes = c } ≡ of_refused
refused-is p q = rw (p, q)

pub one-is : (b : Bool) → b ≡ true → ◌≡◌ {A = ℕ} 1 (pick b 1 0)
one-is b e = rw e

pub zero_is : (b : Bool) → b ≡ false → ◌≡◌ {A = ℕ} 0 (pick b 1 0)
zero_is b e = rw e

pub verdicts-are : (finished unequal : Bool) {x y z : ℕ} → x ≡ pick finished 1 0 → y ≡ pick (not finished) 1 0 → z ≡ pick unequal 1 0
    → record { modules = 1; refused = 0; finished = x; stopped = y; unequal = z } ≡ verdicts_of finished unequal
verdicts-are finished unequal p q r = rw (p, q, r)

pub module-is : (f : Figures) (c : Classes) (finished unequal : Bool) {v : Verdicts} → v ≡ verdicts_of finished unequal → record { verdicts = v; figures = f; classes = c } ≡ of_module f c finished unequal
module-is f c finished unequal e = rw e

pub ruleset making = (rules, none_is, refused-is, one-is, zero_is, verdicts-are, module-is)
