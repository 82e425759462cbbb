-- Full masks stored, and the count over them.
-- Assumes nothing.
use Rattle.std.specs.Prelude.{ℕ, ◌≡◌, List, replicate}
use Rattle.std.proofs.lemmas.List.Edits.{sets}
use Rattle.image_byte.specs.Count.{Counted}

-- k full masks stored
pub record Filled (to k count : ℕ) (ms : List ℕ) (r : ℕ) (ms' : List ℕ) : Type 0 where
  pub stored : ms' ≡ sets ms to (replicate k 255)
  pub counted : Counted k count ms r ms'
