-- A symbol of one side whose name the other side lacks, by what an index of each side finds.
-- Assumes nothing.
use Rattle.std.specs.Prelude.{ℕ, Bool, false, List, eqb, leb}
use Rattle.format.specs.Lists.{pick}
use Rattle.name_index.specs.Index.{found_in, name_at}

-- symbol i is the first of its name among the m of its side, and the n of the other side have none of that name
unfoldable pub on_one_side : (t ys : List ℕ) (m : ℕ) (index s xs : List ℕ) (n : ℕ) (other : List ℕ) → ℕ → Bool
on_one_side t ys m index s xs n other i = pick (eqb (found_in (name_at t ys i) t ys m index) i) (leb n (found_in (name_at t ys i) s xs n other)) false
