-- The address that a fragment refers to: of an outside symbol by the symbol's index, of a kept area by its id.
-- Assumes nothing.
use Rattle.std.specs.Prelude.{ℕ, List, get_or, eqb, Option, Some, None}
use Rattle.std.proofs.Math.Option as math
use Rattle.format.specs.Lists.{pick}
use Rattle.format.specs.Outcome.{Outcome, fine, refused}
use Rattle.format.specs.Fixups.{Reference}
use Rattle.format.specs.Target.{wrap_add}

-- the chosen address plus the value; index is the fragment's own
unfoldable pub address_by : (areas outside : List ℕ) (index : ℕ) → Reference → ℕ
address_by areas outside index r = wrap_add (pick (eqb r.outside 1) (get_or outside index 0) (get_or areas r.what 0)) r.value

-- none where nothing is referred to
abbrev pub address_in : (areas outside : List ℕ) (index : ℕ) → Outcome (math.Option Reference) → math.Option ℕ
address_in areas outside index (fine (math.some r)) = math.some (address_by areas outside index r)
address_in areas outside index (fine math.none) = math.none
address_in areas outside index (refused n p) = math.none

-- what an answer says
abbrev pub told_address : Option ℕ → math.Option ℕ
told_address None = math.none
told_address (Some a) = math.some a
