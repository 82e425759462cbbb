-- When no fragment of a pair can meet 11, 12 or 13.
-- Assumes nothing.
use Rattle.std.specs.Prelude.{ℕ, ◌+◌, ◌*◌, ◌/◌, ◌%◌, ◌≤◌, ◌<◌, ◌≡◌, List, get_or}
use Rattle.sites.specs.declared.Site.{Site}

-- an index is an area's, or that of one of n symbols
pub record Held (mode index n : ℕ) : Type 0 where
  pub known : mode / 2 % 2 ≡ 1 → index < n

-- those of the first c fragments
pub record AllHeld (ms xs : List ℕ) (n c : ℕ) : Type 0 where
  pub each : (i : ℕ) → i < c → Held (get_or ms i 0) (get_or xs i 0) n

-- each fragment made a number, and there is room for a row of each at each entry
pub record Counted (s : Site) : Type 0 where
  pub numbers : s.line.fragments ≤ s.made
  pub room : s.filled.fixups + (s.line.width + s.line.bytes) * s.line.fragments ≤ 1024

pub record Sure (s : Site) (ms xs : List ℕ) : Type 0 where
  pub counted : Counted s
  pub held : AllHeld ms xs s.filled.symbols s.line.fragments
