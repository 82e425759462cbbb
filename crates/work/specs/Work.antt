-- The fragments of a pair worked into its work line, 10 ruled out as they come: what the code does, and what its answers say.
-- Assumes nothing.
use Rattle.std.specs.Prelude.{ℕ, ◌+◌, ◌≤◌, ◌≡◌, Bool, true, false, List, [], ◌∷◌, Option as Answer, Some, None, leb, length, take, drop}
use Rattle.std.proofs.Math.Option.{some}
use Rattle.format.specs.Lists.{pick}
use Rattle.format.specs.Header.{Form}
use Rattle.format.specs.Pairs.{Content, Fragment}
use Rattle.format.specs.Outcome.{Outcome, fine, refused, and_then}
use Rattle.format.specs.Mode.{Class}
use Rattle.format.specs.ModeStep.{number_by_of, values_by, masks_by, keeps_by}
use Rattle.format.specs.WorkLine.{beyond, step_at, partly, fresh}
use Rattle.format.specs.WorkLine as defs
use Rattle.mode_step.specs.Step.{told_step}
use Rattle.sites.specs.declared.Line.{Line}
use Rattle.sites.specs.Columns.{fragment_at, fragments_in}
use Rattle.sites.specs.Site.{line_fits}

-- a line's form of the header, and its content
abbrev pub form_of : ℕ → Line → Form
form_of radix l = record { radix = radix; big = l.big; address_length = l.width }

abbrev pub content_of : Line → List ℕ → Content
content_of l bs = record { address = l.address; bytes = take l.bytes bs }

-- the work line that three arrays hold, and the numbers, of which k are made
unfoldable pub line_of : (wv wm wk ns : List ℕ) → ℕ → defs.Worked
line_of wv wm wk ns k = record { work = record { values = wv; masks = wm; keeps = wk }; numbers = take k ns }

-- one fragment: 10, or its step
unfoldable pub turn_of : (a : ℕ) → Bool → (n place : ℕ) → Fragment → defs.Worked → Outcome defs.Worked
turn_of a big n place f d = pick (beyond a n f) (refused 10 place) (fine (pick (leb a f.entry) (step_at big f d) d))

-- all of them
unfoldable pub turns : (a : ℕ) → Bool → (n place : ℕ) → List Fragment → defs.Worked → Outcome defs.Worked
turns a big n place [] d = fine d
turns a big n place (f ∷ fs) d = and_then (turn_of a big n place f d) (λ e. turns a big n place fs e)

-- the line's fragments, whose indexes do not matter here; the place comes last, so that a contract names it without a λ
unfoldable pub all_turns : Line → (ms es : List ℕ) → defs.Worked → (xs : List ℕ) (place : ℕ) → Outcome defs.Worked
all_turns l ms es d xs place = turns l.width l.big l.bytes place (fragments_in ms es xs l.fragments) d

-- what an answer says, with the arrays as they are then
abbrev pub told : (place : ℕ) → Answer ℕ → (wv wm wk ns : List ℕ) → Outcome defs.Worked
told place None wv wm wk ns = refused 10 place
told place (Some k) wv wm wk ns = fine (line_of wv wm wk ns k)

abbrev pub made_by : Answer ℕ → ℕ
made_by None = 0
made_by (Some k) = k

-- a class's step, done to the parts from an entry on
pub record Applied (c : Class) (three big : Bool) (entry : ℕ) (r : Answer ℕ) (wv wm wk wv' wm' wk' : List ℕ) : Type 0 where
  pub number : told_step r ≡ some (number_by_of big c (drop entry wv))
  pub values : wv' ≡ partly entry (values_by c three) wv
  pub masks : wm' ≡ partly entry (masks_by c three) wm
  pub keeps : wk' ≡ partly entry (keeps_by c three) wk

-- a turn's answer: what it says, that it made one number at most, that it changed nothing where the fragment runs past the line, and that the numbers behind are as they were
pub record Turned (l : Line) (ms es : List ℕ) (i : ℕ) (wv wm wk ns : List ℕ) (m : ℕ) (r : Answer ℕ) (wv' wm' wk' ns' : List ℕ) : Type 0 where
  pub says : (xs : List ℕ) (place : ℕ) → told place r wv' wm' wk' ns' ≡ turn_of l.width l.big l.bytes place (fragment_at ms es xs i) (line_of wv wm wk ns m)
  pub few : made_by r ≤ m + 1
  pub still : r ≡ None → (wv' ≡ wv) × ((wm' ≡ wm) × ((wk' ≡ wk) × (ns' ≡ ns)))
  pub behind : (k : ℕ) → r ≡ Some k → (m ≤ k) × (drop k ns' ≡ drop k ns)

-- how far the fragments go: whether none runs past the line, and the line and the numbers up to the one that does
pub record Reach : Type 0 where
  pub all : Bool
  pub line : defs.Worked

unfoldable pub reach : (a : ℕ) → Bool → (n : ℕ) → List Fragment → defs.Worked → Reach
reach a big n [] d = record { all = true; line = d }
reach a big n (f ∷ fs) d = pick (beyond a n f) (record { all = false; line = d }) (reach a big n fs (pick (leb a f.entry) (step_at big f d) d))

-- those of a line, from a line of its content on
unfoldable pub reach_by : Line → (ms es : List ℕ) → defs.Worked → (xs : List ℕ) → Reach
reach_by l ms es d xs = reach l.width l.big l.bytes (fragments_in ms es xs l.fragments) d

-- what is answered and left then: the line, the numbers, behind them what was there, and no more numbers than fragments
pub record Reached (o : (xs : List ℕ) → Reach) (c : ℕ) (ns : List ℕ) (r : Answer ℕ) (wv' wm' wk' ns' : List ℕ) : Type 0 where
  pub answer : (xs : List ℕ) → r ≡ pick (o xs).all (Some (length (o xs).line.numbers)) None
  pub line : (xs : List ℕ) → (o xs).line ≡ line_of wv' wm' wk' ns' (length (o xs).line.numbers)
  pub behind : (xs : List ℕ) → drop (length (o xs).line.numbers) ns' ≡ drop (length (o xs).line.numbers) ns
  pub few : made_by r ≤ c

-- the whole: a line that is not within the bounds is beyond as it is, and nothing changes
pub record WorkIs (l : Line) (bs ms es wv wm wk ns : List ℕ) (r : Answer ℕ) (wv' wm' wk' ns' : List ℕ) : Type 0 where
  pub says : line_fits l (length bs) ≡ true → Reached (reach_by l ms es (fresh l.width (take l.bytes bs))) l.fragments ns r wv' wm' wk' ns'
  pub unfit : line_fits l (length bs) ≡ false → (r ≡ None) × ((wv' ≡ wv) × ((wm' ≡ wm) × ((wk' ≡ wk) × (ns' ≡ ns))))

-- all turns: what the definition says at each place, and no more numbers than fragments
pub record Whole (o : (xs : List ℕ) (place : ℕ) → Outcome defs.Worked) (c : ℕ) (r : Answer ℕ) (wv' wm' wk' ns' : List ℕ) : Type 0 where
  pub says : (xs : List ℕ) (place : ℕ) → told place r wv' wm' wk' ns' ≡ o xs place
  pub few : made_by r ≤ c
