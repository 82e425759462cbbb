-- The law of what is added to what waits to be written.
-- Assumes nothing.
use Prim.Native.Nat.{ℕ}
use mathlib.Core.Path.{◌≡◌, refl}
use mathlib.Core.List.{List}
use lib.ListN.{length, take}
use lib.Seq.{sets, take-length}
use Rattle.sink.specs.declared.output.Sink.{Sink}
use Rattle.sink.specs.Sinks.{behind, Adds}

pub adds-room : (s : Sink) (out bytes : List ℕ) {after : List ℕ} → after ≡ sets out s.used (take (length bytes) bytes) → Adds s out bytes (behind s bytes) after
adds-room s out bytes e = record { waits = λ l. refl; stand = λ l. rw (take-length bytes) at e }
