-- The way in: refusals 1 to 3.
-- Assumes nothing.
use Rattle.std.specs.Prelude.{ℕ, ◌≤◌, ◌<◌, ◌≡◌, Bool, true, ◌&&◌, List, Result, Ok, Err, length, leb, ltb}
use Rattle.std.proofs.Math.Option.{Option, none, some}
use Rattle.format.specs.Lists.{pick}
use Rattle.format.specs.Outcome.{Outcome, fine, refused}
use Rattle.format.specs.Reading as the
use Rattle.way_in.specs.declared.Lent.{Lent}
use Rattle.answer.specs.declared.Refusal.{Refusal}

-- the first byte above 127, found at r of n bytes
abbrev pub high_of : ℕ → ℕ → Option ℕ
high_of n r = pick (ltb r n) (some r) none

-- where r is below 128, so is every byte
pub record Caps (r : ℕ) (text : List ℕ) : Type 0 where
  pub no-high : r < 128 → the.first_high 0 text ≡ none

abbrev pub lent_of : Lent → the.Lent
lent_of b = record { areas = b.areas; symbols = b.symbols; values = b.values; masks = b.masks; fixups = b.fixups }

unfoldable pub roomy : Lent → Bool
roomy b = the.lent_room (lent_of b)

-- a place in a text of n bytes, which is not too long, and buffers that have room
unfoldable pub fits_from : (at n : ℕ) → Lent → Bool
fits_from at n b = leb at n && leb n 65536 && roomy b

abbrev pub told_gate : Result (Unit {0}) Refusal → Outcome ℕ
told_gate (Ok u) = fine 0
told_gate (Err r) = refused r.number r.place

-- the lent buffers have room
pub record Rooms (areas symbols values masks fixups : ℕ) : Type 0 where
  pub for-areas : 448 ≤ areas
  pub for-symbols : 5120 ≤ symbols
  pub for-values : 65536 ≤ values
  pub for-masks : 65536 ≤ masks
  pub for-fixups : 9216 ≤ fixups

abbrev pub Passed : ℕ → Lent → Result (Unit {0}) Refusal → Type 0
Passed n b (Ok u) = (n ≤ 65536) × (Rooms b.areas b.symbols b.values b.masks b.fixups)
Passed n b (Err r) = Unit {0}

pub record GateIs (b : Lent) (text : List ℕ) (r : Result (Unit {0}) Refusal) : Type 0 where
  pub answered : told_gate r ≡ the.allowed (lent_of b) text
  pub passed : Passed (length text) b r

-- 18 is given by no reading that takes every radix
unfoldable pub takes_by : (every ended : Bool) → (radix : ℕ) → Bool
takes_by every ended radix = pick every true (the.takes ended radix)
