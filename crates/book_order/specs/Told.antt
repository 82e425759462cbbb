-- Where an entry's number goes.
-- Assumes nothing.
use Rattle.std.specs.Prelude.{ℕ, ◌≤◌, ◌≡◌, List, ◌∷◌, ◌++◌, take, drop}
use Rattle.book.specs.Given.{put_number}

-- the place at which putting the number of the k-th entry among the first k numbers puts it
pub record Spot (p r o : List ℕ) (k place : ℕ) : Type 0 where
  pub within : place ≤ k
  pub whole : put_number p r k (take k o) ≡ take place (take k o) ++ k ∷ drop place (take k o)
