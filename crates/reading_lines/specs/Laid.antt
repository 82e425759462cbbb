-- What the lent buffers hold once both groups are read, and what is answered.
-- Assumes nothing.
use Rattle.std.specs.Prelude.{ℕ, ◌*◌, ◌≤◌, ◌≡◌, Bool, List, [], length, take, replicate, eqb, ltb}
use Rattle.std.proofs.lemmas.List.Edits.{sets}
use Rattle.format.specs.Lists.{pick, over, flat}
use Rattle.format.specs.Header.{Form}
use Rattle.format.specs.Outcome.{Outcome, fine, refused, and_then}
use Rattle.format.specs.Pairs as the
use Rattle.format.specs.Records.{Taken, last_of, stop}
use Rattle.format.specs.Tables.{Tables, total, kept_count, counted, room}
use Rattle.format.specs.Placing.{placing}
use Rattle.format.specs.Rows.{area_table, symbol_numbers, fixup_numbers}
use Rattle.format.specs.Reading as paper
use Rattle.format.specs.Held.{Held}
use Rattle.laws.specs.Places.{pairs_at, records_at}
use Rattle.laws.specs.Rows.{areas_in, tables_in, fixups_in}
use Rattle.grouped.specs.Group.{areas_for}
use Rattle.way_in.specs.WayIn.{fits_from}
use Rattle.way_in.specs.declared.Lent.{Lent}
use Rattle.homes.specs.Home.{no_home}
use Rattle.answer.specs.Answer.{told, verdict_at}
use Rattle.tables.specs.GroupOne.{Hold}
use Rattle.kept_sizes.specs.Sizes.{SizesAre}
use Rattle.group_start.specs.Start.{starting_of}
use Rattle.reading_lines.specs.Onward.{Ended, GroupedTwo, Carried, ends_of, onward}
use Rattle.answer.specs.Answer as code
use Rattle.answer.specs.Answer.{refusal}
use Rattle.answer.specs.declared.Counts.{Counts}
use Rattle.kept_sizes.specs.declared.Sizes.{Sizes}
use Rattle.tables.specs.declared.group.Found.{Found}
use Rattle.turns.specs.declared.Standing.{Standing}
use Rattle.turns.specs.declared.Standing.TheVariants.{Made, Barred}
use Rattle.turns.specs.declared.Progress.{Progress}
use Rattle.turns.specs.declared.Paired.{Paired}
use Rattle.turns.specs.declared.Paired.TheVariants.{All, Rejected}

-- what it begins with: the text and the tables within their bounds, and the kept areas' sizes
pub record Begun (text xs : List ℕ) (d : Found) (s : Sizes) : Type 0 where
  pub inside : d.next ≤ length text
  pub short : length text ≤ 65536
  pub areas-low : d.areas ≤ 64
  pub symbols-low : d.symbols ≤ 1024
  pub sizes : SizesAre xs d.areas s

-- an image before its first pair: zeros at the first n positions
pub record Blank (n : ℕ) (vs : List ℕ) : Type 0 where
  pub zeros : take n vs ≡ replicate n 0
  pub long : n ≤ length vs

-- its pairs, if the reading goes on to it
abbrev pub pairs_from : Bool → Form → List ℕ → (next : ℕ) → (more : Bool) → List (Taken the.Pair)
pairs_from ended f text next more = pick more (pairs_at ended f text next) []

unfoldable pub onward_from : Bool → Form → (text areas symbols : List ℕ) → Progress → (vs ms rows : List ℕ) → Outcome Ended
onward_from ended f text areas symbols g vs ms rows =
    onward f (tables_in areas g.areas symbols g.symbols) (pairs_from ended f text g.next g.on) g vs ms rows

-- group two over the first positions of two images
pub record SecondIs (ended : Bool) (f : Form) (text areas symbols : List ℕ) (g : Progress) (vs ms rows : List ℕ) (r : Paired) (areas' vs' ms' rows' : List ℕ) : Type 0 where
  pub grouped : GroupedTwo (onward_from ended f text areas symbols g (take g.positions vs) (take g.positions ms) rows) r (take g.positions vs') (take g.positions ms') rows'
  pub carried : Carried g.areas areas (take g.positions ms) areas' (take g.positions ms')

-- what the records give, and where they end
pub record Whole : Type 0 where
  pub built : paper.Built
  pub stop : ℕ

abbrev pub whole_of : paper.Read → Whole
whole_of r = record { built = r.built; stop = stop r.parsed }

-- 7 to 13 with the tables at hand
unfoldable pub whole_at : Form → Tables → List (Taken the.Pair) → ℕ → Outcome Whole
whole_at f t ps e =
    and_then (counted ps) (λ n.
    and_then (room t) (λ z.
    and_then (placing f t ps) (λ s.
    fine (record { built = record { tables = t; lines = n; size = z; state = s }; stop = last_of e (ends_of ps) }))))

-- the lines from a place on, behind a header that ended at head
unfoldable pub whole_lines : Bool → Form → List ℕ → (at head : ℕ) → Outcome Whole
whole_lines ended f text at head = and_then (paper.read_of (record { form = f; head = head; records = records_at ended f text at })) (λ r. fine (whole_of r))

-- the answer and the rows, for a text of n bytes
abbrev pub lay_of : ℕ → Outcome Whole → paper.Reading
lay_of n (refused x p) = record { answer = paper.refusal x p; areas = []; symbols = []; values = []; masks = []; fixups = [] }
lay_of n (fine w) = record {
  answer = paper.accepted (paper.counts_of w.built) (verdict_at n w.stop);
  areas = area_table w.built.tables.areas w.built.state.masks;
  symbols = flat symbol_numbers w.built.tables.symbols;
  values = w.built.state.values;
  masks = w.built.state.masks;
  fixups = flat fixup_numbers (paper.fixups_of w.built);
}

-- the answer, and every lent buffer
pub record Laid (n : ℕ) (o : Outcome Whole) (old : Held) (r : code.Answer) (new : Held) : Type 0 where
  pub says : told r ≡ (lay_of n o).answer
  pub areas : new.areas ≡ over (lay_of n o).areas old.areas
  pub symbols : new.symbols ≡ over (lay_of n o).symbols old.symbols
  pub values : new.values ≡ over (lay_of n o).values old.values
  pub masks : new.masks ≡ over (lay_of n o).masks old.masks
  pub fixups : new.fixups ≡ over (lay_of n o).fixups old.fixups

-- how much there is
abbrev pub counts_from : Found → Sizes → (lines fixups : ℕ) → Counts
counts_from d z n k = record { areas = d.areas; symbols = d.symbols; lines = n; kept = z.kept; positions = z.total; fixups = k }

-- a refusal of group two
abbrev pub answer_two : Paired → code.Answer
answer_two (Rejected n p) = refusal n p
answer_two (All n e k) = refusal 0 0

-- group two and what is laid out, for the tables that the rows hold
pub record RestIs (ended : Bool) (f : Form) (text : List ℕ) (d : Found) (xs ys : List ℕ) (old : Held) (r : code.Answer) (new : Held) : Type 0 where
  pub laid : (t : Tables) (xs₀ ys₀ : List ℕ) → length xs₀ ≡ 448 → 5 * d.symbols ≤ length ys₀ → Hold t xs₀ ys₀ xs ys d.areas d.symbols
      → Laid (length text) (whole_at f t (pairs_from ended f text d.next d.more) d.stop) old r new

-- how long the lent buffers are
abbrev pub lent_in : Held → Lent
lent_in h = record { areas = length h.areas; symbols = length h.symbols; values = length h.values; masks = length h.masks; fixups = length h.fixups }

-- the lines from any place on, into any buffers
unfoldable pub lines_from : Bool → Form → List ℕ → (at head : ℕ) → Held → Outcome Whole
lines_from ended f text at head old = pick (fits_from at (length text) (lent_in old)) (whole_lines ended f text at head) (refused 0 0)
