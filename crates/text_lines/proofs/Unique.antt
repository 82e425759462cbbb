-- No second answer fits the contract of `line_at`.
-- Assumes nothing.
use Prim.Native.Nat.{ℕ}
use mathlib.Core.Path.{◌≡◌, ap, sym, ◌∙◌}
use mathlib.Core.List.{List}
use Rattle.text_lines.specs.Lines.{LineIs}
use Rattle.text_lines.specs.declared.LineAt.{LineAt}

-- `line_at`
pub one_line : (s : List ℕ) (p : ℕ) (l l' : LineAt) → LineIs s p l → LineIs s p l' → l ≡ l'
one_line s p l l' a b =
    same (a.ends_at ∙ sym b.ends_at) (a.line-end ∙ sym b.line-end) (a.behind ∙ sym b.behind)
  where
    same : l.end ≡ l'.end → l.ends ≡ l'.ends → l.next ≡ l'.next → l ≡ l'
    same x y z =
        ap (λ (n : ℕ). record { end = n; ends = l.ends; next = l.next }) x
        ∙ (ap (λ (n : ℕ). record { end = l'.end; ends = n; next = l.next }) y ∙ ap (λ (n : ℕ). record { end = l'.end; ends = l'.ends; next = n }) z)
