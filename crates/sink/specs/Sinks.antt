-- What waits to be written, and what is added to it.
-- Assumes nothing.
use Rattle.std.specs.Prelude.{ℕ, ◌+◌, ◌≤◌, ◌≡◌, true, false, List, ◌++◌, length}
use Rattle.std.proofs.lemmas.List.Edits.{sets}
use Rattle.io.specs.Digits.{last_digits, IsDigitCount}
use Rattle.sink.specs.declared.output.Sink.{Sink}

-- nothing waits
abbrev pub empty : Sink
empty = record { used = 0; broken = false }

-- a write has failed
abbrev pub lost : Sink
lost = record { used = 0; broken = true }

-- what waits behind these bytes
abbrev pub behind : Sink → List ℕ → Sink
behind s bytes = record { used = s.used + length bytes; broken = s.broken }

-- bytes that have room in the buffer stand behind those that waited, and no other byte changes.
-- Where they have none, what waited is written first, and whether that succeeds is the system's.
pub record Adds (s : Sink) (out bytes : List ℕ) (r : Sink) (after : List ℕ) : Type 0 where
  pub waits : s.used + length bytes ≤ length out → r ≡ behind s bytes
  pub stand : s.used + length bytes ≤ length out → after ≡ sets out s.used bytes

-- a word and a number in as few decimal digits as hold it
pub record AddsDecimal (s : Sink) (out word : List ℕ) (n : ℕ) (r : Sink) (after : List ℕ) : Type 0 where
  pub places : ℕ
  pub fewest : IsDigitCount 10 1 n places
  pub adds : Adds s out (word ++ last_digits 10 places n) r after

-- nothing waits any more, and a sink that was lost stays lost
pub record Written (s r : Sink) : Type 0 where
  pub none : r.used ≡ 0
  pub stays : s.broken ≡ true → r ≡ lost
