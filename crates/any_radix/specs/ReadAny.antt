-- The ended reading that takes a header of every radix, and its contract.
-- Assumes nothing.
use Rattle.std.specs.Prelude.{ℕ, ◌≡◌, true, List}
use Rattle.format.specs.Lists.{over}
use Rattle.format.specs.Outcome.{Outcome, and_then}
use Rattle.format.specs.Records.{parsed}
use Rattle.format.specs.Reading.{Answer, Lent, Read, Reading, allowed, read_of, reading_of}
use Rattle.format.specs.Held.{Held, lengths}

-- the ended reading but for 18: a header of every radix is taken
unfoldable pub read_any : Lent → List ℕ → Outcome Read
read_any b text = and_then (allowed b text) (λ k. and_then (parsed true text) read_of)

-- its answer, and the rows that stand first in each lent buffer afterwards
unfoldable pub reading_any : Lent → List ℕ → Reading
reading_any b text = reading_of text (read_any b text)

-- the contract: the paper's answer, and each buffer's rows over what it held
pub record MeetsAny (text : List ℕ) (old : Held) (answer : Answer) (new : Held) : Type 0 where
  pub says : answer ≡ (reading_any (lengths old) text).answer
  pub areas : new.areas ≡ over (reading_any (lengths old) text).areas old.areas
  pub symbols : new.symbols ≡ over (reading_any (lengths old) text).symbols old.symbols
  pub values : new.values ≡ over (reading_any (lengths old) text).values old.values
  pub masks : new.masks ≡ over (reading_any (lengths old) text).masks old.masks
  pub fixups : new.fixups ≡ over (reading_any (lengths old) text).fixups old.fixups
