-- An area's id, as the definition has it.
-- Assumes nothing.
use Rattle.std.specs.Prelude.{ℕ, Option as Answer, Some, None}
use Rattle.std.proofs.Math.Option.{Option, none, some}

abbrev pub told_id : Answer ℕ → Option ℕ
told_id (Some k) = some k
told_id None = none
