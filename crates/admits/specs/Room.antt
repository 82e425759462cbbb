-- Buffers that a reading has room in.
-- Assumes nothing.
use Rattle.std.specs.Prelude.{ℕ, ◌≡◌, true}
use Rattle.format.specs.Reading.{lent_room}

-- buffers that a reading has room in
pub record LentRoom (areas symbols values masks fixups : ℕ) : Type 0 where
  pub room : lent_room (record { areas = areas; symbols = symbols; values = values; masks = masks; fixups = fixups }) ≡ true
