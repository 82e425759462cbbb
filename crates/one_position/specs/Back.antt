-- From the last pair back to the first: what is known of the rows, and what is answered.
-- Assumes nothing.
use Rattle.std.specs.Prelude.{ℕ, ◌+◌, ◌*◌, ◌<◌, ◌≡◌, Bool, true, false, List, length, get_or}
use Rattle.format.specs.Header.{Form}
use Rattle.format.specs.Outcome.{fine}
use Rattle.format.specs.Pairs.{Content, Pair, Relocation, placed, skipped}
use Rattle.format.specs.Placing.{extent}
use Rattle.format.specs.Records.{Taken}
use Rattle.format.specs.Tables.{Tables, offset}
use Rattle.homes.specs.declared.Home.{Home}
use Rattle.last_writer.specs.LastWriter.{last_writer}
use Rattle.one_cell.specs.declared.Cell.{Cell}
use Rattle.one_cell.specs.declared.Cell.TheVariants.{Byte, Nothing, Beyond, Misfit}
use Rattle.record_rows.specs.RecordRows.{pair_columns}
use Rattle.position_answer.specs.declared.Explained.{Explained}
use Rattle.position_answer.specs.declared.Explained.TheVariants.{Unwritten, Wrote}
use Rattle.position_answer.specs.Answer.{told}
use Rattle.one_position.specs.Pair.{Asked, Sound, Stands}

abbrev pub is_byte : Cell → Bool
is_byte (Byte v m) = true
is_byte Nothing = false
is_byte Beyond = false
is_byte Misfit = false

abbrev pub found_of : Cell → ℕ → Explained
found_of (Byte v m) p = Wrote v m p
found_of Nothing p = Unwritten
found_of Beyond p = Unwritten
found_of Misfit p = Unwritten

-- no pair
abbrev pub no_pair : Taken Pair
no_pair = record { place = 0; end = 0; body = skipped }

-- the k-th row stands for the k-th pair, which is not refused
pub record RowIs (fm : Form) (t : Tables) (pairs content fragments : List ℕ) (qs : List (Taken Pair)) (k : ℕ) : Type 0 where
  pub place : ℕ
  pub content-is : Content
  pub relocation : Relocation
  pub is : get_or qs k no_pair ≡ record { place = place; end = 0; body = placed content-is relocation }
  pub stands : Stands pairs content fragments (pair_columns * k) place content-is relocation
  pub sound : Sound fm t place content-is relocation

-- so do all of them
pub record RowsAre (fm : Form) (t : Tables) (pairs content fragments : List ℕ) (n : ℕ) (qs : List (Taken Pair)) : Type 0 where
  pub many : length qs ≡ n
  pub each : (k : ℕ) → k < n → RowIs fm t pairs content fragments qs k

-- the last of the pairs that writes the position
pub record LastIs (pairs content fragments : List ℕ) (n : ℕ) (big : Bool) (width : ℕ) (h : Home) (want : ℕ) (r : Explained) : Type 0 where
  pub last : (fm : Form) (t : Tables) (a : ℕ) (qs : List (Taken Pair)) → Asked fm t a big width h → RowsAre fm t pairs content fragments n qs → want < extent t.areas a
      → told r ≡ fine (last_writer fm t qs (offset t.areas a + want))
