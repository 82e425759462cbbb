-- Group two from a place on: its pairs counted and placed, as the definition has it.
-- Assumes nothing.
use Rattle.std.specs.Prelude.{ℕ, suc, ◌+◌, ◌*◌, ◌≤◌, ◌<◌, ◌≡◌, Bool, List, map, length, set, ltb}
use Rattle.format.specs.Lists.{pick}
use Rattle.format.specs.Header.{Form}
use Rattle.format.specs.Pairs as the
use Rattle.format.specs.Outcome.{Outcome, fine, refused, and_then, fold}
use Rattle.format.specs.Records.{Taken, last_of}
use Rattle.format.specs.Tables.{Tables, fits, total}
use Rattle.format.specs.Placing.{State, place_pair}
use Rattle.laws.specs.Places.{pairs_at}
use Rattle.laws.specs.Rows.{areas_in, tables_in, state_of}
use Rattle.header.specs.Told.{more_of}
use Rattle.header.specs.declared.Form as text
use Rattle.homes.specs.Home.{home_at}
use Rattle.area_rows.specs.Known.{narrowed}
use Rattle.place.specs.Kept.{Kept}
use Rattle.place.specs.Pair.{pair_of}
use Rattle.homes.specs.declared.Home.{Home}
use Rattle.sites.specs.declared.Filled.{Filled}
use Rattle.sites.specs.declared.Line.{Line}
use Rattle.place.specs.declared.pair.Placed as place
use Rattle.place.specs.declared.pair.Placed.TheVariants.{Done as Through, Stopped, Misfit}
use Rattle.steps.specs.declared.pair.Body.TheVariants.{Skipped, Placed}
use Rattle.steps.specs.declared.pair.PairStep.{PairStep}
use Rattle.steps.specs.declared.pair.PairStep.TheVariants.{Ends, Takes}
use Rattle.turns.specs.declared.Standing.{Standing}
use Rattle.turns.specs.declared.Standing.TheVariants.{Made, Barred as Refused}
use Rattle.turns.specs.declared.Progress.{Progress}
use Rattle.turns.specs.declared.Paired.{Paired}
use Rattle.turns.specs.declared.Paired.TheVariants.{All, Rejected}
use Rattle.turns.specs.declared.Turn.{Turn}
use Rattle.turns.specs.declared.Turn.TheVariants.{Goes, Done}
use Rattle.turns.specs.declared.Plan.{Plan}
use Rattle.turns.specs.declared.Plan.TheVariants.{Leave, Place}
use Rattle.turns.specs.Turns.{ending_of, after_of, standing_in}

-- the places behind records
abbrev pub ends_of : List (Taken the.Pair) → List ℕ
ends_of ps = map (λ (t : Taken the.Pair). t.end) ps

-- what group two comes to: T and R pairs, where the records end, images and fixups
pub record Ended : Type 0 where
  pub lines : ℕ
  pub stop : ℕ
  pub state : State

-- the images and fixups so far, or the refusal that is kept
abbrev pub stands : Standing → (vs ms rows : List ℕ) → Outcome State
stands (Made k) vs ms rows = fine (state_of vs ms rows k)
stands (Refused n p) vs ms rows = refused n p

-- the pairs from here on: counted, then placed
unfoldable pub onward : Form → Tables → List (Taken the.Pair) → Progress → (vs ms rows : List ℕ) → Outcome Ended
onward f t ps g vs ms rows =
    and_then (fold fits g.lines ps) (λ n.
    and_then (and_then (stands g.standing vs ms rows) (λ s. fold (place_pair f t) s ps)) (λ s.
    fine (record { lines = n; stop = last_of g.stop (ends_of ps); state = s })))

unfoldable pub onward_at : Bool → Form → (text areas symbols : List ℕ) → Progress → (vs ms rows : List ℕ) → Outcome Ended
onward_at ended f text areas symbols g vs ms rows =
    onward f (tables_in areas g.areas symbols g.symbols) (pairs_at ended f text g.next) g vs ms rows

abbrev pub told_two : Paired → (vs ms rows : List ℕ) → Outcome Ended
told_two (All n stop k) vs ms rows = fine (record { lines = n; stop = stop; state = state_of vs ms rows k })
told_two (Rejected n p) vs ms rows = refused n p

abbrev pub FewIn : Paired → Type 0
FewIn (All n stop k) = k ≤ 1024
FewIn (Rejected n p) = Unit {0}

pub record GroupedTwo (o : Outcome Ended) (r : Paired) (vs ms rows : List ℕ) : Type 0 where
  pub says : told_two r vs ms rows ≡ o
  pub few : FewIn r

abbrev pub standing_of : place.Placed → Standing
standing_of (Through k x) = Made k
standing_of (Stopped n p) = Refused n p
standing_of Misfit = Refused 0 0

abbrev pub filled_of : Progress → (fixups known : ℕ) → Filled
filled_of g k x = record { areas = g.areas; symbols = g.symbols; fixups = k; known = x }

-- the rows of areas with the known bits that a pair leaves; a refusal leaves them
abbrev pub kept_in : (areas : List ℕ) (i : ℕ) → place.Placed → List ℕ
kept_in areas i (Through k x) = set areas (7 * i + 6) (narrowed x)
kept_in areas i (Stopped n p) = areas
kept_in areas i Misfit = areas

-- where placing has not been refused, the rows have room and the images are not too large
abbrev pub Sound : (areas : List ℕ) (na : ℕ) → Standing → Type 0
Sound areas na (Made k) = (k ≤ 1024) × (total (areas_in areas na) ≤ 65536)
Sound areas na (Refused n p) = Unit {0}

pub record Ready (text areas : List ℕ) (g : Progress) : Type 0 where
  pub inside : g.next ≤ length text
  pub low : g.lines ≤ g.next
  pub areas-low : g.areas ≤ 64
  pub symbols-low : g.symbols ≤ 1024
  pub sound : Sound areas g.areas g.standing
  pub homed : g.home ≡ home_at areas g.areas g.home.area

-- what is lent to a turn for a pair's bytes and the columns of its fragments
pub record Columns (b ms es xs : List ℕ) : Type 0 where
  pub of-bytes : length b ≡ 256
  pub of-modes : length ms ≡ 64
  pub of-entries : length es ≡ 64
  pub of-indexes : length xs ≡ 64

-- what placing a pair asks
pub record PlaceReady (l : Line) (g : Progress) (bytes areas rows : List ℕ) : Type 0 where
  pub address : l.width ≤ 4
  pub content : l.bytes ≤ 256
  pub lent : l.bytes ≤ length bytes
  pub fragments : l.fragments ≤ 64
  pub areas-low : g.areas ≤ 64
  pub symbols-low : g.symbols ≤ 1024
  pub sound : Sound areas g.areas g.standing
  pub homed : g.home ≡ home_at areas g.areas g.home.area
  pub room : 9216 ≤ length rows

-- a pair was placed, or a refusal is kept
pub record Advances (l : Line) (g : Progress) (bytes ms es xs areas symbols vs fs rows : List ℕ) (r : Turn) (vs' fs' rows' : List ℕ) : Type 0 where
  pub standing : Standing
  pub home : Home
  pub answered : r ≡ after_of (standing_in g home standing)
  pub says : (radix end : ℕ) → stands standing vs' fs' rows' ≡ and_then (stands g.standing vs fs rows) (λ s. pair_of l bytes ms es xs areas symbols (filled_of g 0 0) s radix end)
  pub sound : Sound areas g.areas standing
  pub homed : home ≡ home_at areas g.areas home.area

-- the rows of areas are the same but for the known bits, and have those of the masks if they had them before
pub record Carried (n : ℕ) (areas ms areas' ms' : List ℕ) : Type 0 where
  pub same : (k : ℕ) → areas_in areas' k ≡ areas_in areas k
  pub keeps : Kept n areas ms → Kept n areas' ms'

-- how many areas there are after a turn
abbrev pub listed : ℕ → Turn → ℕ
listed n (Goes g) = g.areas
listed n (Done two) = n

-- a turn with n areas
pub record CarriedBy (n : ℕ) (areas ms : List ℕ) (r : Turn) (areas' ms' : List ℕ) : Type 0 where
  pub carried : Carried n areas ms areas' ms'
  pub as_many : listed n r ≡ n

-- what a turn leaves to do
pub record GoesOn (ended : Bool) (f : Form) (text areas symbols : List ℕ) (p : ℕ) (o : Outcome Ended) (g : Progress) (vs ms rows : List ℕ) : Type 0 where
  pub rest : o ≡ onward_at ended f text areas symbols g vs ms rows
  pub ready : Ready text areas g
  pub less : p < g.next

abbrev pub TurnSays : Bool → Form → (text areas symbols : List ℕ) → ℕ → Outcome Ended → Turn → (vs ms rows : List ℕ) → Type 0
TurnSays ended f text areas symbols p o (Goes g) vs ms rows = GoesOn ended f text areas symbols p o g vs ms rows
TurnSays ended f text areas symbols p o (Done two) vs ms rows = GroupedTwo o two vs ms rows

pub record TurnIs (ended : Bool) (f : Form) (text areas symbols : List ℕ) (p : ℕ) (o : Outcome Ended) (r : Turn) (vs ms rows : List ℕ) : Type 0 where
  pub says : TurnSays ended f text areas symbols p o r vs ms rows
