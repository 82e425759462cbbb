-- Group two before its first pair.
-- Assumes nothing.
use Rattle.std.specs.Prelude.{ℕ, Bool, ltb}
use Rattle.format.specs.Lists.{pick}
use Rattle.homes.specs.Home.{no_home}
use Rattle.tables.specs.declared.group.Found.{Found}
use Rattle.turns.specs.declared.Standing.{Standing}
use Rattle.turns.specs.declared.Standing.TheVariants.{Made, Barred}
use Rattle.turns.specs.declared.Progress.{Progress}

abbrev pub going_at : Found → (positions : ℕ) → Bool → Standing → Progress
going_at d n on s =
    record { areas = d.areas; symbols = d.symbols; positions = n; next = d.next; stop = d.stop; lines = 0; on = on; standing = s; home = no_home d.areas }

abbrev pub starting_of : Found → (total : ℕ) → Progress
starting_of d z = pick (ltb 65536 z) (going_at d 0 d.more (Barred 9 0)) (going_at d z d.more (Made 0))
