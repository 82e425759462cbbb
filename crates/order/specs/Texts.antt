-- The order of lines in whole texts: two texts whose records differ by an exchange of two neighbouring pairs, and a text in which the bytes of two
-- such pairs are exchanged.
-- Assumes nothing.
use Rattle.std.specs.Prelude.{ℕ, ◌-◌, ◌≡◌, Bool, true, List, ◌++◌, drop, take}
use Rattle.std.proofs.Math.Option.{Option, none, some}
use Rattle.format.specs.Lists.{flat}
use Rattle.format.specs.Header.{Form}
use Rattle.format.specs.Pairs.{Pair, placed, skipped}
use Rattle.format.specs.Outcome.{fine}
use Rattle.format.specs.Records.{Taken}
use Rattle.format.specs.Tables.{Tables}
use Rattle.format.specs.Rows.{fixup_numbers}
use Rattle.format.specs.Reading.{Lent, Read, read, reading}
use Rattle.laws.specs.PairRows.{all_rows}
use Rattle.order.specs.Writes.{rows}
use Rattle.format.specs.Known.{known_bits}
use Rattle.order.specs.Order.{SameImages}

-- a module that was read, whose pairs are some with a before b between them; and another text with the same form and entries and the same
-- pairs, but b before a: it is read too, with the same tables, counts and images, and the same fixups, the rows of b before those of a
pub record OtherText (ended : Bool) (l : Lent) (text : List ℕ) (w : Read) (before behind : List (Taken Pair)) (a b : Taken Pair) : Type 0 where
  pub other : Read
  pub accepted : read ended l text ≡ fine other
  pub same_tables : w.built.tables ≡ other.built.tables
  pub same_lines : w.built.lines ≡ other.built.lines
  pub same_size : w.built.size ≡ other.built.size
  pub same : SameImages w.built.tables.areas w.built.state other.built.state
  pub fixups : w.built.state.fixups
      ≡ all_rows w.parsed.form w.built.tables before
      ++ (rows w.parsed.form w.built.tables a ++ (rows w.parsed.form w.built.tables b ++ all_rows w.parsed.form w.built.tables behind))
  pub other-fixups : other.built.state.fixups
      ≡ all_rows w.parsed.form w.built.tables before
      ++ (rows w.parsed.form w.built.tables b ++ (rows w.parsed.form w.built.tables a ++ all_rows w.parsed.form w.built.tables behind))

-- a text with its bytes from p to q and those from q to r in the other order
unfoldable pub exchanged : (p q r : ℕ) → List ℕ → List ℕ
exchanged p q r text = take p text ++ (take (r - q) (drop q text) ++ (take (q - p) (drop p text) ++ drop r text))

-- the index of the area in which a pair lies; a T and P pair lies in none
abbrev pub area_of : Pair → Option ℕ
area_of skipped = none
area_of (placed c r) = some r.area

-- rows in two orders: two runs, one behind the other, are exchanged
pub record Runs {A : Type 0} (one other : List A) (xs ys : List A) : Type 0 where
  pub before : List A
  pub behind : List A
  pub has : xs ≡ before ++ (one ++ (other ++ behind))
  pub has-exchanged : ys ≡ before ++ (other ++ (one ++ behind))

-- A text that the ended reading read, and the text with the bytes of two neighbouring pairs exchanged: the answer is the same, counts and verdict,
-- and so are the rows of areas and symbols, the images and the known bits. The fixup rows, which stand area by area, are the same where the two pairs lie in different areas;
-- where they lie in one, the run of rows of one pair and that of the other are exchanged.
pub record ReadAlike (l : Lent) (text other : List ℕ) (fm : Form) (t : Tables) (a b : Taken Pair) : Type 0 where
  pub answer : (reading true l text).answer ≡ (reading true l other).answer
  pub areas : (reading true l text).areas ≡ (reading true l other).areas
  pub symbols : (reading true l text).symbols ≡ (reading true l other).symbols
  pub values : (reading true l text).values ≡ (reading true l other).values
  pub masks : (reading true l text).masks ≡ (reading true l other).masks
  pub known : (i : ℕ) → known_bits t.areas i (reading true l text).masks ≡ known_bits t.areas i (reading true l other).masks
  pub fixups-apart : (area_of a.body ≡ area_of b.body → ⊥) → (reading true l text).fixups ≡ (reading true l other).fixups
  pub fixups-together : area_of a.body ≡ area_of b.body
      → Runs (flat fixup_numbers (rows fm t a)) (flat fixup_numbers (rows fm t b)) (reading true l text).fixups (reading true l other).fixups
