-- What the placing of one pair answers, in the definition's words.
-- Assumes nothing.
use Rattle.std.specs.Prelude.{ℕ, ◌+◌, ◌*◌, ◌≤◌, ◌≡◌, Option as Answer, Bool, true, false, ◌&&◌, List, eqb, length, drop}
use Rattle.std.proofs.Math.Option.{Option, none, some}
use Rattle.format.specs.Lists.{pick}
use Rattle.format.specs.Pairs.{placed}
use Rattle.format.specs.Outcome.{Outcome, fine, refused, and_then}
use Rattle.format.specs.Tables.{Tables, last_index}
use Rattle.format.specs.Placing.{State, walk, walk_by, place_at, place_pair}
use Rattle.laws.specs.Rows.{tables_in, state_of}
use Rattle.homes.specs.declared.Home.{Home}
use Rattle.sites.specs.declared.Line.{Line}
use Rattle.sites.specs.declared.Filled.{Filled}
use Rattle.checks.specs.declared.check.Fault.{Fault}
use Rattle.checks.specs.declared.check.Fault.TheVariants as fault
use Rattle.place.specs.declared.pair.Placed.{Placed}
use Rattle.place.specs.declared.pair.Placed.TheVariants.{Done, Stopped, Misfit}
use Rattle.sites.specs.declared.Site.{Site}
use Rattle.sites.specs.Columns.{fragments_in}
use Rattle.images.specs.Image.{moved}
use Rattle.work.specs.Work as work
pub use Rattle.work.specs.Work.{form_of, content_of}
use Rattle.sites.specs.Site.{line_fits, filled_fits, Ready}
use Rattle.located.specs.Site.{site_at, kept_fits}

-- the definition at the lent rows; neither the radix nor the place where the pair ends matters
unfoldable pub pair_of : Line → (bs ms es xs areas symbols : List ℕ) → Filled → State → (radix end : ℕ) → Outcome State
pair_of l bs ms es xs areas symbols n st radix end =
    place_pair (form_of radix l) (tables_in areas n.areas symbols n.symbols) st
    (record { place = l.place; end = end; body = placed (content_of l bs) (record { area = l.area; fragments = fragments_in ms es xs l.fragments }) })

-- the tables that lent rows hold
abbrev pub tables_of : (areas symbols : List ℕ) → Site → Tables
tables_of areas symbols s = tables_in areas s.filled.areas symbols s.filled.symbols

-- the same for a kept area at its site
unfoldable pub pair_at : Site → (bs ms es xs areas symbols : List ℕ) → State → (radix place : ℕ) → Outcome State
pair_at s bs ms es xs areas symbols st radix place =
    place_at (form_of radix s.line) (tables_of areas symbols s) place s.id s.start s.size (content_of s.line bs) (fragments_in ms es xs s.line.fragments) st

-- the same with the work line as the fragments left it
unfoldable pub after_work : Site → Answer ℕ → (ms es xs areas symbols ns wv wm wk : List ℕ) → State → (radix place : ℕ) → Outcome State
after_work s worked ms es xs areas symbols ns wv wm wk st radix place =
    and_then (work.told place worked wv wm wk ns) (λ d.
    walk (walk_by (tables_of areas symbols s) place s.id s.start s.size (fragments_in ms es xs s.line.fragments) d) (s.line.width + s.line.bytes) 0 s.line.address st)

-- both at the place of the site's line
unfoldable pub site_pair : Site → (bs ms es xs areas symbols : List ℕ) → State → (radix end : ℕ) → Outcome State
site_pair s bs ms es xs areas symbols st radix end = pair_at s bs ms es xs areas symbols st radix s.line.place

unfoldable pub worked_pair : Site → Answer ℕ → (ms es xs areas symbols ns wv wm wk : List ℕ) → State → (radix end : ℕ) → Outcome State
worked_pair s worked ms es xs areas symbols ns wv wm wk st radix end = after_work s worked ms es xs areas symbols ns wv wm wk st radix s.line.place

-- the same for a pair at a home
abbrev pub pair_by : Line → Filled → (start size : ℕ) (bs ms es xs areas symbols : List ℕ) → State → (radix : ℕ) → Option ℕ → Outcome State
pair_by l n start size bs ms es xs areas symbols st radix none = fine st
pair_by l n start size bs ms es xs areas symbols st radix (some id) = pair_at (site_at l n id start size) bs ms es xs areas symbols st radix l.place

unfoldable pub pair_in : Line → Home → (bs ms es xs areas symbols : List ℕ) → Filled → State → (radix end : ℕ) → Outcome State
pair_in l h bs ms es xs areas symbols n st radix end = pair_by l n h.start h.size bs ms es xs areas symbols st radix (last_index h.id)

-- whether a pair can be placed: the home is its area's, 5 to 9 are ruled out, and the lent rows have room
unfoldable pub fits : Line → Home → (bs : List ℕ) → Filled → (rows : List ℕ) → Bool
fits l h bs n rows = eqb h.area l.area && ((line_fits l (length bs) && filled_fits n (length rows)) && kept_fits h.start h.size (last_index h.id))

-- what a pair comes to that is not placed
abbrev pub stopped_by : Fault → (place : ℕ) → Placed
stopped_by fault.Misfit place = Misfit
stopped_by (fault.Refused n) place = Stopped n place

-- what an answer says, with the images and the rows as they are then
abbrev pub told : Placed → (vs ms rows : List ℕ) → Option (Outcome State)
told (Done k known) vs ms rows = some (fine (state_of vs ms rows k))
told (Stopped n p) vs ms rows = some (refused n p)
told Misfit vs ms rows = none

-- how many rows are in use then, as far as it is told
abbrev pub used_now : Placed → ℕ
used_now (Done k known) = k
used_now (Stopped n p) = 0
used_now Misfit = 0

-- the known bits of the pair's area then
abbrev pub known_now : ℕ → Placed → ℕ
known_now known (Done k then) = then
known_now known (Stopped n p) = known
known_now known Misfit = known

-- whether anything may have changed
abbrev pub changes : Placed → Bool
changes (Done k known) = true
changes (Stopped n p) = false
changes Misfit = false

-- a work line with the pair's fragments worked in
pub record Prepared (s : Site) (bs ms es : List ℕ) (r : Answer ℕ) (ns wv wm wk : List ℕ) : Type 0 where
  pub turned : (xs areas symbols : List ℕ) (st : State) (radix place : ℕ) → pair_at s bs ms es xs areas symbols st radix place ≡ after_work s r ms es xs areas symbols ns wv wm wk st radix place
  pub few : work.made_by r ≤ 64

-- what is known of a pair that is placed
pub record Placeable (s : Site) (bs rows : List ℕ) : Type 0 where
  pub ready : Ready s
  pub lent : s.line.bytes ≤ length bs
  pub room : 9216 ≤ length rows

-- a pair of any area, and every lent byte: where it fits, what the definition says; else a misfit; nothing has changed unless it is placed; and the known bits have moved as the ones of the masks
pub record PairPlaced (fit : Bool) (o : (radix end : ℕ) → Outcome State) (known : ℕ) (vs ms rows : List ℕ) (r : Placed) (vs' ms' rows' : List ℕ) : Type 0 where
  pub says : (radix end : ℕ) → told r vs' ms' rows' ≡ pick fit (some (o radix end)) none
  pub few : used_now r ≤ 1024
  pub rest : drop (9 * used_now r) rows' ≡ drop (9 * used_now r) rows
  pub same : changes r ≡ false → (vs' ≡ vs) × ((ms' ≡ ms) × (rows' ≡ rows))
  pub bits : known_now known r ≡ moved known ms ms'
