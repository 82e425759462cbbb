use native.Mathlib.Omega.{arith}
use Rattle.reading_lines.proofs.GroupTwo.{body-empty, body_kept, body-made}
use Rattle.reading_lines.proofs.GroupTwo.{bodies}
use Rattle.reading_lines.proofs.turn.place_body.Goals as goal

pub is_empty-requires : goal.is_empty-requires
is_empty-requires c = search bodies

pub standing_in-requires : goal.standing_in-requires
standing_in-requires c = search bodies

pub after-requires : goal.after-requires
after-requires c = search bodies

pub returns-then-is_empty : goal.returns-then-is_empty
returns-then-is_empty c = body-empty c.requires _ _ _ _ _ _ c.is_empty.ensures c.if-is_empty.true c.standing_in.ensures c.after.ensures

pub enum_known-s : goal.enum_known-s
enum_known-s c = search bodies

pub enum_told-1 : goal.enum_told-1
enum_told-1 c = search bodies

pub standing_in-requires-in_default : goal.standing_in-requires-in_default
standing_in-requires-in_default c = search bodies

pub after-requires-in_default : goal.after-requires-in_default
after-requires-in_default c = search bodies

pub returns-in_default : goal.returns-in_default
returns-in_default c = body_kept c.requires _ _ _ _ _ _ c.in_default.is c.standing_in-in_default.ensures c.after-in_default.ensures

pub known_bits-requires : goal.known_bits-requires
known_bits-requires c = search bodies

pub filled_of-filled-requires : goal.filled_of-filled-requires
filled_of-filled-requires c = search bodies

pub home_for-home-requires : goal.home_for-home-requires
home_for-home-requires c = search bodies

pub place_pair-r-requires : goal.place_pair-r-requires
place_pair-r-requires c = search bodies

pub keep_known-requires : goal.keep_known-requires
keep_known-requires c = search bodies

pub standing_of-requires : goal.standing_of-requires
standing_of-requires c = search bodies

pub standing_in-requires-2 : goal.standing_in-requires-2
standing_in-requires-2 c = search bodies

pub after-requires-2 : goal.after-requires-2
after-requires-2 c = search bodies

pub shape_of-areas : goal.shape_of-areas
shape_of-areas c = search bodies

pub shape_of-values : goal.shape_of-values
shape_of-values c = search bodies

pub shape_of-masks : goal.shape_of-masks
shape_of-masks c = search bodies

pub shape_of-rows : goal.shape_of-rows
shape_of-rows c = search bodies

pub returns : goal.returns
returns c =
    body-made c.requires _ _ _ _ _ _ c.in-Made.is c.known_bits.ensures c.filled_of-filled.ensures c.home_for-home.ensures c.place_pair-r.ensures (λ j. omega (arith, c.slice_known-6-1.given j)) c.keep_known.ensures
    c.standing_of.ensures c.standing_in-2.ensures c.after-2.ensures
