-- The answers about a pair of lines, as the definition's ones.
-- Assumes nothing.
use Rattle.std.specs.Prelude.{ℕ, ◌+◌, ◌-◌, ◌^◌, ◌≤◌, ◌<◌, ◌≡◌, Bool, true, false, List, [], length, eqb, Option, Some, None}
use Rattle.std.proofs.lemmas.List.Edits.{sets}
use Rattle.format.specs.Lists.{pick}
use Rattle.format.specs.Got.{Got, is, isnt}
use Rattle.format.specs.Header.{Form}
use Rattle.format.specs.Records.{Step, stops, last, goes}
use Rattle.format.specs.Pairs as the
use Rattle.laws.specs.Places.{end_at, next_line, line_at, pair_at}
use Rattle.line_step.specs.Steps.{line_step}
use Rattle.line_step.specs.declared.LineStep.{LineStep}
use Rattle.line_step.specs.declared.LineStep.TheVariants.{Stops, Goes, Last}
use Rattle.fragments.specs.Fragments.{Rows}
use Rattle.pair_line.specs.Pairs.{bytes_in, fragments_in}
use Rattle.text_lines.specs.declared.LineAt.{LineAt}
use Rattle.steps.specs.declared.pair.Body.{Body}
use Rattle.steps.specs.declared.pair.Body.TheVariants.{Skipped, Placed}
use Rattle.steps.specs.declared.pair.PairLine.{PairLine}
use Rattle.steps.specs.declared.pair.PairStep.{PairStep}
use Rattle.steps.specs.declared.pair.PairStep.TheVariants.{Ends, Takes}

-- whether there is an answer, and the place behind it
pub data Case : Type 0 where
  none : Case
  upto : ℕ → Case

abbrev pub case_of : {A : Type 0} → Got A → Case
case_of (is a u) = upto u
case_of (isnt r p) = none

-- a pair that is skipped, or none
abbrev pub line_of : Case → Option PairLine
line_of (upto u) = Some (record { body = Skipped; used = u })
line_of none = None

-- a body, and the pair that it tells of, whose lists stand in what was lent
pub record PlacedIs (c : the.Content) (r : the.Relocation) (a n ar k : ℕ) (b ms es xs b' ms' es' xs' : List ℕ) : Type 0 where
  pub address : a ≡ c.address
  pub count : n ≡ length c.bytes
  pub area : ar ≡ r.area
  pub fragments : k ≡ length r.fragments
  pub bytes : b' ≡ sets b 0 c.bytes
  pub rows : Rows r.fragments ms es xs ms' es' xs'

abbrev pub BodyIs : the.Pair → Body → (b ms es xs b' ms' es' xs' : List ℕ) → Type 0
BodyIs the.skipped Skipped b ms es xs b' ms' es' xs' = Unit {0}
BodyIs (the.placed c r) Skipped b ms es xs b' ms' es' xs' = ⊥
BodyIs the.skipped (Placed a n ar k) b ms es xs b' ms' es' xs' = ⊥
BodyIs (the.placed c r) (Placed a n ar k) b ms es xs b' ms' es' xs' = PlacedIs c r a n ar k b ms es xs b' ms' es' xs'

pub record PairOf (m : Got the.Pair) (body : Body) (u : ℕ) (b ms es xs b' ms' es' xs' : List ℕ) : Type 0 where
  pub pair : the.Pair
  pub read : m ≡ is pair u
  pub body_is : BodyIs pair body b ms es xs b' ms' es' xs'

abbrev pub PairSays : Got the.Pair → Option PairLine → (b ms es xs b' ms' es' xs' : List ℕ) → Type 0
PairSays m (Some l) b ms es xs b' ms' es' xs' = PairOf m l.body l.used b ms es xs b' ms' es' xs'
PairSays m None b ms es xs b' ms' es' xs' = case_of m ≡ none

pub record PairIs (m : Got the.Pair) (r : Option PairLine) (b ms es xs b' ms' es' xs' : List ℕ) : Type 0 where
  pub says : PairSays m r b ms es xs b' ms' es' xs'

-- the fragments that are stored: those of the R line, if the T line was read
abbrev pub stored_by : Got the.Content → List the.Fragment → List the.Fragment
stored_by (is c u) fs = fs
stored_by (isnt r p) fs = []

-- what reading a pair leaves in what was lent: the bytes of its T line, and if that was used whole the fragments of its R line
pub record Left (m whole : Got the.Content) (q : Got the.Relocation) (b ms es xs b' ms' es' xs' : List ℕ) : Type 0 where
  pub bytes : b' ≡ sets b 0 (bytes_in m)
  pub rows : Rows (stored_by whole (fragments_in q)) ms es xs ms' es' xs'

-- the same at a place: nothing where no full line end stands behind the first line
abbrev pub bytes_at : Form → List ℕ → ℕ → List ℕ
bytes_at f text p = pick (eqb (end_at text p) 0) [] (bytes_in (the.content_line f (line_at text p).bytes 0))

abbrev pub fragments_at : Form → List ℕ → ℕ → List the.Fragment
fragments_at f text p =
    pick (eqb (end_at text p) 0) []
    (stored_by (the.whole_content f (line_at text p).bytes) (fragments_in (the.relocation_line f (line_at text (next_line text p)).bytes 0)))

pub record LeftAt (f : Form) (text : List ℕ) (p : ℕ) (b ms es xs b' ms' es' xs' : List ℕ) : Type 0 where
  pub bytes : b' ≡ sets b 0 (bytes_at f text p)
  pub rows : Rows (fragments_at f text p) ms es xs ms' es' xs'

-- what a pair used, from a place on, can be counted
abbrev pub UsedBounds : ℕ → Option PairLine → Type 0
UsedBounds p (Some l) = p + l.used < 2 ^ 64
UsedBounds p None = Unit {0}

pub record UsedIn (p : ℕ) (l : Option PairLine) : Type 0 where
  pub bounds : UsedBounds p l

-- what a pair does to group two, by the step of its lines
abbrev pub step_on : Body → ℕ → LineStep → PairStep
step_on body next Stops = Ends
step_on body next (Goes end) = Takes body end next true
step_on body next (Last end) = Takes body end next false

-- what a pair from p, whose second line is k, does to group two
abbrev pub step_from : Option PairLine → ℕ → LineAt → Bool → PairStep
step_from None p k ended = Ends
step_from (Some l) p k ended = step_on l.body k.next (line_step ended l.used (k.end - p) k.ends k.next (p + l.used))

-- a step with its pair
abbrev pub step_to : Bool → ℕ → ℕ → the.Pair → Step the.Pair
step_to true p end b = goes (record { place = p; end = end; body = b })
step_to false p end b = last (record { place = p; end = end; body = b })

pub record StepOf (m : Step the.Pair) (text : List ℕ) (p : ℕ) (body : Body) (end next : ℕ) (on : Bool) (b ms es xs b' ms' es' xs' : List ℕ) : Type 0 where
  pub pair : the.Pair
  pub step : step_to on p end pair ≡ m
  pub behind : next ≡ next_line text (next_line text p)
  pub inside : next ≤ length text
  pub more : on ≡ true → p < next
  pub body_is : BodyIs pair body b ms es xs b' ms' es' xs'

abbrev pub StepSays : Step the.Pair → List ℕ → ℕ → PairStep → (b ms es xs b' ms' es' xs' : List ℕ) → Type 0
StepSays m text p Ends b ms es xs b' ms' es' xs' = stops ≡ m
StepSays m text p (Takes body end next on) b ms es xs b' ms' es' xs' = StepOf m text p body end next on b ms es xs b' ms' es' xs'

pub record PairStepIs (ended : Bool) (f : Form) (text : List ℕ) (p : ℕ) (r : PairStep) (b ms es xs b' ms' es' xs' : List ℕ) : Type 0 where
  pub says : StepSays (pair_at ended f text p) text p r b ms es xs b' ms' es' xs'
