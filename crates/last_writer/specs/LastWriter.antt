-- One position of a kept area, read from the pairs alone: from the last pair back to the first, the pair that wrote there, and from that pair
-- its value and mask; 0/0 if none did. The images are not looked at.
-- Assumes nothing.
use Rattle.std.specs.Prelude.{ℕ, zero, suc, ◌+◌, ◌≡◌, Bool, List, [], ◌∷◌, reverse, get_or, ltb}
use Rattle.std.proofs.Math.Option.{Option, none, some}
use Rattle.format.specs.Lists.{pick}
use Rattle.format.specs.Header.{Form}
use Rattle.format.specs.Pairs.{Pair}
use Rattle.format.specs.Records.{Taken}
use Rattle.format.specs.Outcome.{Outcome, fine, refused, and_then}
use Rattle.format.specs.Tables.{Tables, Area, kept, offset}
use Rattle.format.specs.Reading.{Lent, Read, read}
use Rattle.order.specs.Writes.{Cell, cell_at, writes, else_of}

-- the place of a pair, and what it wrote
pub record Found : Type 0 where
  pub place : ℕ
  pub value : ℕ
  pub mask : ℕ

abbrev pub found_in : ℕ → Option Cell → Option Found
found_in place none = none
found_in place (some c) = some (record { place = place; value = c.value; mask = c.mask })

-- what one pair wrote at a position
unfoldable pub found_by : Form → Tables → Taken Pair → ℕ → Option Found
found_by fm t p i = found_in p.place (cell_at (writes fm t p) i)

abbrev pub first_of : Option Found → Option Found → Option Found
first_of none b = b
first_of (some a) b = some a

-- the first pair of a list that wrote there
unfoldable pub first_writer : Form → Tables → List (Taken Pair) → ℕ → Option Found
first_writer fm t [] i = none
first_writer fm t (p ∷ ps) i = let rest = first_writer fm t ps i in first_of (found_by fm t p i) rest

-- from the last pair back to the first
unfoldable pub last_writer : Form → Tables → List (Taken Pair) → ℕ → Option Found
last_writer fm t ps i = first_writer fm t (reverse ps) i

-- value and mask, 0/0 if no pair wrote there
abbrev pub value_of : Option Found → ℕ
value_of o = else_of (λ (x : Found). x.value) o 0

abbrev pub mask_of : Option Found → ℕ
mask_of o = else_of (λ (x : Found). x.mask) o 0

-- ------------------------------------------------------------------ by the id of a kept area and a position in it

-- where an image begins, and its size
pub record Span : Type 0 where
  pub start : ℕ
  pub size : ℕ

-- the image of the id-th kept area of a list, whose first image begins at a place
unfoldable pub span_from : ℕ → List Area → ℕ → Option Span
span_from at [] id = none
span_from at (a ∷ areas) zero = let rest = span_from at areas zero in pick (kept a) (some (record { start = at; size = a.size })) rest
span_from at (a ∷ areas) (suc id) =
    let on = span_from (at + a.size) areas id in
    let off = span_from at areas (suc id) in
    pick (kept a) on off

-- 20: an id or a position that is not there
abbrev pub position_in : ℕ → Option Span → Outcome ℕ
position_in position none = refused 20 0
position_in position (some s) = pick (ltb position s.size) (fine (s.start + position)) (refused 20 0)

-- who wrote a position of a kept area last, if there is such a position
unfoldable pub writer_of : Form → Tables → List (Taken Pair) → (id position : ℕ) → Outcome (Option Found)
writer_of fm t ps id position = and_then (position_in position (span_from 0 t.areas id)) (λ i. fine (last_writer fm t ps i))

-- the same of a module, its own refusals first
unfoldable pub writer_in : Bool → Lent → List ℕ → (id position : ℕ) → Outcome (Option Found)
writer_in ended b text id position =
    and_then (read ended b text) (λ w. writer_of w.parsed.form w.built.tables w.parsed.records.pairs id position)

-- what is told of a position of the i-th area, which has the id: exactly what the image holds
pub record Told (ended : Bool) (b : Lent) (text : List ℕ) (w : Read) (id position i : ℕ) : Type 0 where
  pub found : Option Found
  pub answered : writer_in ended b text id position ≡ fine found
  pub value : get_or w.built.state.values (offset w.built.tables.areas i + position) 0 ≡ value_of found
  pub mask : get_or w.built.state.masks (offset w.built.tables.areas i + position) 0 ≡ mask_of found
