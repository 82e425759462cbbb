-- No second answer fits a contract: what a halt tells is told by no other.
-- Assumes nothing.
use Prim.Native.Nat.{ℕ}
use mathlib.Core.Path.{◌≡◌, ap, ◌∙◌}
use Rattle.halt.specs.Halt as the
use Rattle.line_halt.specs.Told.{told_halt}
use Rattle.line_halt.specs.declared.Halt.{Halt}

-- `entry_halt`, and `relocation_halt` and `halt_at` of the crates above
pub one-halt : (a b : Halt) → told_halt a ≡ told_halt b → a ≡ b
one-halt a b e = same (ap (λ (h : the.Halt). h.reason) e) (ap (λ (h : the.Halt). h.place) e)
  where
    same : a.reason ≡ b.reason → a.at ≡ b.at → a ≡ b
    same p q = ap (λ (n : ℕ). record { reason = n; at = a.at }) p ∙ ap (λ (n : ℕ). record { reason = b.reason; at = n }) q
