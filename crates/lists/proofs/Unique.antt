-- No second answer fits a contract: what an answer tells is told by no other.
-- Assumes nothing.
use Rattle.std.proofs.Common.{◌≡◌, ℕ, List, sym, ap, ◌∙◌}
use Rattle.lists.specs.Many.{BytesRead}
use Rattle.lists.specs.declared.Run.{Run}

-- `parse_byte_many`
pub one-run : (radix : ℕ) (s : List ℕ) (at : ℕ) (r r' : Run) (room left left' : List ℕ) → BytesRead radix s at r room left → BytesRead radix s at r' room left' → (r ≡ r') × (left ≡ left')
one-run radix s at r r' room left left' a b =
    (same (a.ran.counted ∙ sym b.ran.counted) (a.ran.reached ∙ sym b.ran.reached), a.stored ∙ sym b.stored)
  where
    same : r.count ≡ r'.count → r.end ≡ r'.end → r ≡ r'
    same p q = ap (λ (n : ℕ). record { count = n; end = r.end }) p ∙ ap (λ (n : ℕ). record { count = r'.count; end = n }) q
