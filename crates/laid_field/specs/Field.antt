-- One fragment's bytes: the address that it refers to plus its number.
-- Assumes nothing.
use Rattle.std.specs.Prelude.{ℕ, Bool, List, take, drop, eqb}
use Rattle.std.proofs.Math.Option.{Option, none, some}
use Rattle.format.specs.Lists.{pick}
use Rattle.format.specs.Number.{join}
use Rattle.format.specs.Mode.{on_site}
use Rattle.format.specs.Target.{wrap_add}
use Rattle.laid.specs.Laid.{in_bytes}

-- three bytes on site, or two
unfoldable pub size_by : ℕ → ℕ
size_by m = pick (eqb (on_site m) 3) 3 2

-- the address plus the number that the content has there; zeros where nothing is referred to
abbrev pub field_by : Bool → (site : ℕ) → List ℕ → (mode : ℕ) → Option ℕ → List ℕ
field_by big site bs m none = in_bytes big (size_by m) 0
field_by big site bs m (some a) = in_bytes big (size_by m) (wrap_add a (join big (take (size_by m) (drop site bs))))
