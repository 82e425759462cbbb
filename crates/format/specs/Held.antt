-- The contract of the whole reading: the answer, and what every lent buffer holds afterwards.
-- Assumes nothing.
use Rattle.std.specs.Prelude.{ℕ, ◌≡◌, Bool, List, length}
use Rattle.format.specs.Lists.{over}
use Rattle.format.specs.Reading.{Lent, Answer, reading}

-- what the lent buffers hold
pub record Held : Type 0 where
  pub areas : List ℕ
  pub symbols : List ℕ
  pub values : List ℕ
  pub masks : List ℕ
  pub fixups : List ℕ

unfoldable pub lengths : Held → Lent
lengths h = record
    { areas = length h.areas; symbols = length h.symbols; values = length h.values; masks = length h.masks; fixups = length h.fixups }

-- the contract: the paper's answer, and each buffer's rows over what it held
pub record Meets (ended : Bool) (text : List ℕ) (old : Held) (answer : Answer) (new : Held) : Type 0 where
  pub says : answer ≡ (reading ended (lengths old) text).answer
  pub areas : new.areas ≡ over (reading ended (lengths old) text).areas old.areas
  pub symbols : new.symbols ≡ over (reading ended (lengths old) text).symbols old.symbols
  pub values : new.values ≡ over (reading ended (lengths old) text).values old.values
  pub masks : new.masks ≡ over (reading ended (lengths old) text).masks old.masks
  pub fixups : new.fixups ≡ over (reading ended (lengths old) text).fixups old.fixups
