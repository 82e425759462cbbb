-- The answers of group one, as the definition's ones.
-- Assumes nothing.
use Rattle.std.specs.Prelude.{ℕ, zero, suc, ◌≤◌, ◌<◌, ◌≡◌, Bool, true, false, ◌&&◌, List, [], ◌∷◌, map, length}
use Rattle.std.proofs.lemmas.List.Edits.{sets}
use Rattle.format.specs.Lists.{pick, flat}
use Rattle.format.specs.Header.{Form}
use Rattle.format.specs.Outcome.{Outcome, fine, refused}
use Rattle.format.specs.Records.{Step, stops, last, goes, Taken, ends, last_of}
use Rattle.format.specs.Entries as entries
use Rattle.format.specs.Tables.{Tables, add_entry, tables}
use Rattle.format.specs.Rows.{area_numbers, symbol_numbers}
use Rattle.format.specs.Pairs as pairs
use Rattle.laws.specs.Places.{next_line, entry_at, records_at, pairs_at}
use Rattle.tables.specs.declared.group.Found.{Found}
use Rattle.tables.specs.declared.group.Listed.{Listed}
use Rattle.tables.specs.declared.group.Listed.TheVariants.{Done, Refused, TooLong}

-- the rows of tables, in what was lent for them
pub record Hold (t : Tables) (xs₀ ys₀ xs ys : List ℕ) (na ns : ℕ) : Type 0 where
  pub areas : xs ≡ sets xs₀ 0 (flat (area_numbers 0) t.areas)
  pub symbols : ys ≡ sets ys₀ 0 (flat symbol_numbers t.symbols)
  pub area-count : na ≡ length t.areas
  pub symbol-count : ns ≡ length t.symbols

abbrev pub found_of : (areas symbols next stop : ℕ) → Bool → Found
found_of a s n e m = record { areas = a; symbols = s; next = n; stop = e; more = m }

-- the tables as far as the entries before a refusal give them
abbrev pub or_before : Tables → Outcome Tables → (Tables → Tables) → Tables
or_before t (fine u) f = f u
or_before t (refused n p) f = t

unfoldable pub as_far : Tables → List (Taken entries.Entry) → Tables
as_far t [] = t
as_far t (e ∷ es) = or_before t (add_entry t e) (λ u. as_far u es)

abbrev pub no_tables : Tables
no_tables = record { areas = []; symbols = [] }

-- so many lines further
unfoldable pub lines_on : List ℕ → ℕ → ℕ → ℕ
lines_on text zero p = p
lines_on text (suc n) p = lines_on text n (next_line text p)

-- whether the reading goes on behind each of so many lines
abbrev pub is_goes : Step entries.Entry → Bool
is_goes (goes t) = true
is_goes (last t) = false
is_goes stops = false

unfoldable pub all_go : Bool → Form → List ℕ → ℕ → ℕ → Bool
all_go ended f text zero p = true
all_go ended f text (suc n) p = is_goes (entry_at ended f text p) && all_go ended f text n (next_line text p)

-- where the records of group one end
abbrev pub entry_ends : List (Taken entries.Entry) → List ℕ
entry_ends es = map (λ (t : Taken entries.Entry). t.end) es

-- group one is read: its tables, where group two begins, if it does, and where the last record ended; then what a caller asks
pub record Read (ended : Bool) (f : Form) (text : List ℕ) (at head : ℕ) (xs₀ ys₀ xs ys : List ℕ) (found : Found) : Type 0 where
  pub short : length text ≤ 65536
  pub sofar : Tables
  pub entries : tables (records_at ended f text at).entries ≡ fine sofar
  pub held : Hold sofar xs₀ ys₀ xs ys found.areas found.symbols
  pub next-is : lines_on text (length (records_at ended f text at).entries) at ≡ found.next
  pub more-is : all_go ended f text (length (records_at ended f text at).entries) at ≡ found.more
  pub stop_is : last_of head (entry_ends (records_at ended f text at).entries) ≡ found.stop
  pub two : (records_at ended f text at).pairs ≡ pick found.more (pairs_at ended f text found.next) []
  pub stop : last_of head (ends (records_at ended f text at)) ≡ last_of found.stop (map (λ (t : Taken pairs.Pair). t.end) (records_at ended f text at).pairs)
  pub inside : at ≤ length text → found.next ≤ length text
  pub areas-low : found.areas ≤ 64
  pub symbols-low : found.symbols ≤ 1024

-- a line is refused: the rows are those of the entries before it
pub record Refuses (ended : Bool) (f : Form) (text : List ℕ) (at : ℕ) (xs₀ ys₀ xs ys : List ℕ) (n p : ℕ) : Type 0 where
  pub short : length text ≤ 65536
  pub says : tables (records_at ended f text at).entries ≡ refused n p
  pub areas : xs ≡ sets xs₀ 0 (flat (area_numbers 0) (as_far no_tables (records_at ended f text at).entries).areas)
  pub symbols : ys ≡ sets ys₀ 0 (flat symbol_numbers (as_far no_tables (records_at ended f text at).entries).symbols)

unfoldable pub Grouped : Bool → Form → List ℕ → (at head : ℕ) → (xs₀ ys₀ xs ys : List ℕ) → Listed → Type 0
Grouped ended f text at head xs₀ ys₀ xs ys (Done found) = Read ended f text at head xs₀ ys₀ xs ys found
Grouped ended f text at head xs₀ ys₀ xs ys (Refused n p) = Refuses ended f text at xs₀ ys₀ xs ys n p
Grouped ended f text at head xs₀ ys₀ xs ys TooLong = (65536 < length text) × (xs ≡ xs₀) × (ys ≡ ys₀)
