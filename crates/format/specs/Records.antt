-- The records of a text, by the plain reading and by the ended reading; where the reading ended, and the verdict.
-- Assumes nothing.
use Rattle.std.specs.Prelude.{suc, zero, ℕ, ◌+◌, Bool, ◌&&◌, List, [], map, ◌++◌, ◌∷◌, drop, length, eqb, leb}
use Rattle.std.proofs.Math.Option.{Option, none, some}
use Rattle.format.specs.Lists.{pick}
use Rattle.format.specs.Got.{Got, is, isnt}
use Rattle.format.specs.Lines.{Line, end_length, lines_of, width}
use Rattle.format.specs.Header.{Form, Head, header}
use Rattle.format.specs.Entries.{Entry, entry_line}
use Rattle.format.specs.Pairs.{Pair, pair_lines}
use Rattle.format.specs.Outcome.{Outcome, fine, refused}

-- a record: its first letter's place, the place behind it, and what it is
pub record Taken (A : Type 0) : Type 0 where
  pub place : ℕ
  pub end : ℕ
  pub body : A

-- what a line, or a pair of lines, does to a reading
pub data Step (A : Type 0) : Type 0 where
  stops : Step A
  last : Taken A → Step A
  goes : Taken A → Step A

-- A line used whole, with a full line end behind it, goes on. Else it stops the reading; the plain reading still counts it.
-- The flag says that the reading is the ended one; n is the line's length without its line end e; next is the place behind both.
-- A record of the ended reading ends behind its line end, one of the plain reading where its line was used up.
abbrev pub step_of : {A : Type 0} → Bool → (at n e next : ℕ) → Got A → Step A
step_of ended at n e next (is a used) =
    pick (eqb used n && leb 1 e) (goes (record { place = at; end = pick ended next (at + used); body = a }))
    (pick ended stops (last (record { place = at; end = at + used; body = a })))
step_of ended at n e next (isnt r p) = stops

-- a line of group one
unfoldable pub entry_step : Bool → Form → ℕ → Line → Step Entry
entry_step ended f at l = step_of ended at (length l.bytes) l.ends (at + width l) (entry_line f l.bytes 0)

-- two lines of group two
unfoldable pub pair_step : Bool → Form → ℕ → Line → Line → Step Pair
pair_step ended f at t r =
    step_of ended at (width t + length r.bytes) r.ends (at + (width t + width r)) (pair_lines f t r)

-- the record of a step in front of the rest, where the reading goes on
abbrev pub consed : {A : Type 0} → Step A → List (Taken A) → List (Taken A)
consed stops rest = []
consed (last t) rest = t ∷ []
consed (goes t) rest = t ∷ rest

-- group two: pairs of lines from a place on
unfoldable pub pairs : Bool → Form → ℕ → List Line → List (Taken Pair)
pairs ended f at [] = []
pairs ended f at (t ∷ []) = []
pairs ended f at (t ∷ r ∷ ls) =
    let rest = pairs ended f (at + (width t + width r)) ls in
    consed (pair_step ended f at t r) rest

-- the records of group one and of group two
pub record Records : Type 0 where
  pub entries : List (Taken Entry)
  pub pairs : List (Taken Pair)

-- the same for group one, behind which group two follows
abbrev pub both : Step Entry → Records → List (Taken Pair) → Records
both stops rest two = record { entries = []; pairs = two }
both (last t) rest two = record { entries = t ∷ []; pairs = [] }
both (goes t) rest two = record { entries = t ∷ rest.entries; pairs = rest.pairs }

-- group one, line by line, and group two from the first line that group one does not take
unfoldable pub records : Bool → Form → ℕ → List Line → Records
records ended f at [] = record { entries = []; pairs = [] }
records ended f at (l ∷ ls) =
    let rest = records ended f (at + width l) ls in
    let two = pairs ended f at (l ∷ ls) in
    both (entry_step ended f at l) rest two

-- a text's form, the place where its header ends, and its records
pub record Parsed : Type 0 where
  pub form : Form
  pub head : ℕ
  pub records : Records

-- behind the header's blanks: e is the length of the line end there, which the ended reading counts to the header
unfoldable pub parsed_at : Bool → Form → ℕ → ℕ → List ℕ → Outcome Parsed
parsed_at ended f at zero text =
    pick ended (refused 4 0) (fine (record { form = f; head = at; records = record { entries = []; pairs = [] } }))
parsed_at ended f at (suc e) text =
    let rest = records ended f (at + suc e) (lines_of ended (drop (at + suc e) text)) in
    fine (record { form = f; head = pick ended (at + suc e) at; records = rest })

-- no header is refused
unfoldable pub parsed_from : Bool → Option Head → List ℕ → Outcome Parsed
parsed_from ended none text = refused 4 0
parsed_from ended (some h) text = parsed_at ended h.form h.next (end_length (drop h.next text)) text

-- refusal 4, or what the text holds
unfoldable pub parsed : Bool → List ℕ → Outcome Parsed
parsed ended text = parsed_from ended (header text) text

-- where the records end
unfoldable pub ends : Records → List ℕ
ends r = map (λ (t : Taken Entry). t.end) r.entries ++ map (λ (t : Taken Pair). t.end) r.pairs

-- the last of some places, or the place before them
abbrev pub last_of : ℕ → List ℕ → ℕ
last_of n [] = n
last_of n (m ∷ ms) = last_of m ms

-- the place of the first byte that was not taken; in the plain reading a line end that leads no record is not taken
unfoldable pub stop : Parsed → ℕ
stop p = last_of p.head (ends p.records)

-- whether a byte is left
pub data Verdict : Type 0 where
  finished : Verdict
  stopped : (place : ℕ) → Verdict

-- finished if no byte is left, else stopped, with the place of the next byte
unfoldable pub verdict : List ℕ → Parsed → Verdict
verdict text p = pick (eqb (stop p) (length text)) finished (stopped (stop p))
