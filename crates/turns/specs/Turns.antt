-- How group two goes on: what is answered where it ends, and in a turn.
-- Assumes nothing.
use Rattle.std.specs.Prelude.{ℕ, Bool}
use Rattle.format.specs.Lists.{pick}
use Rattle.homes.specs.declared.Home.{Home}
use Rattle.turns.specs.declared.Standing.{Standing}
use Rattle.turns.specs.declared.Standing.TheVariants.{Made, Barred}
use Rattle.turns.specs.declared.Progress.{Progress}
use Rattle.turns.specs.declared.Paired.{Paired}
use Rattle.turns.specs.declared.Paired.TheVariants.{All, Rejected}
use Rattle.turns.specs.declared.Turn.{Turn}
use Rattle.turns.specs.declared.Turn.TheVariants.{Goes, Done}
use Rattle.turns.specs.declared.Plan.{Plan}
use Rattle.turns.specs.declared.Plan.TheVariants.{Leave, Place}

-- what is answered at the end, and in a turn
abbrev pub ending_with : Standing → (lines stop : ℕ) → Paired
ending_with (Made k) n stop = All n stop k
ending_with (Barred x p) n stop = Rejected x p

abbrev pub ending_of : Progress → Paired
ending_of g = ending_with g.standing g.lines g.stop

abbrev pub after_of : Progress → Turn
after_of g = pick g.on (Goes g) (Done (ending_of g))

abbrev pub stepped_of : Progress → (lines end next : ℕ) → Bool → Progress
stepped_of g lines end next on =
    record { areas = g.areas; symbols = g.symbols; positions = g.positions; next = next; stop = end; lines = lines; on = on; standing = g.standing; home = g.home }

abbrev pub standing_in : Progress → Home → Standing → Progress
standing_in g h s =
    record { areas = g.areas; symbols = g.symbols; positions = g.positions; next = g.next; stop = g.stop; lines = g.lines; on = g.on; standing = s; home = h }

abbrev pub turn_of : Plan → Turn
turn_of (Leave u) = u
turn_of (Place l g) = after_of g

abbrev pub two_of : Turn → Paired
two_of (Done two) = two
two_of (Goes g) = ending_of g
