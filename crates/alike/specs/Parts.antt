-- What a fixup says, in two parts: its numbers, and what it refers to.
-- Assumes nothing.
use Rattle.std.specs.Prelude.{ℕ, Bool, List, [], ◌∷◌, eqb}
use Rattle.format.specs.Lists.{pick}
use Rattle.format.specs.Fixups.{Fixup}
use Rattle.laws.specs.Rows.{fixup_row}
use Rattle.row_parts.specs.Parts.{part_of}
use Rattle.difference.specs.Module.{same_numbers, says}

unfoldable pub numbers_of : Fixup → List ℕ
numbers_of x = x.home ∷ x.position ∷ x.size ∷ x.mode ∷ x.refers.value ∷ x.number ∷ x.refers.outside ∷ []

unfoldable pub refers_to : List ℕ → Fixup → List ℕ
refers_to text x = pick (eqb x.refers.outside 0) (x.refers.what ∷ []) (part_of text x.refers.what x.refers.length)

-- whether fixup i of one text says the same as fixup j of another
unfoldable pub same_at : (s xs : List ℕ) (i : ℕ) (t ys : List ℕ) → ℕ → Bool
same_at s xs i t ys j = same_numbers (says s (fixup_row xs i)) (says t (fixup_row ys j))
