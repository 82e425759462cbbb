-- The contracts of the exported functions over T and R records and over a written text.
-- Assumes nothing.
use Rattle.std.specs.Prelude.{ℕ, ◌≡◌, Bool, false, true, List}
use Rattle.format.specs.Header.{Form}
use Rattle.record_rows.specs.ReadPairs.{HeldPairs, PairsAnswer, PairsMeet}
use Rattle.row_texts.specs.RowRecords.{Rows}
use Rattle.writer.specs.Writes.{Writes}
use Rattle.pairs_answer.specs.Numbers.{pairs_numbers}
use Rattle.pairs_answer.specs.declared.PairsNumbers.{PairsNumbers}
use Rattle.written_answer.specs.Answer.{Answer, refusal}
use Rattle.written_answer.specs.Numbers.{form_for, is_width, written_numbers}
use Rattle.written_answer.specs.declared.WrittenNumbers.{WrittenNumbers}

-- the answer as numbers, and every lent number
pub record Reads (text : List ℕ) (old : HeldPairs) (numbers : PairsNumbers) (new : HeldPairs) : Type 0 where
  pub answer : PairsAnswer
  pub meets : PairsMeet text old answer new
  pub says : numbers ≡ pairs_numbers answer

-- 15 for any other width, and the buffer as it was
abbrev pub WritesIf : Bool → Form → Rows → List ℕ → Answer → List ℕ → Type 0
WritesIf true f r out a out' = Writes f r out a out'
WritesIf false f r out a out' = (a ≡ refusal 15 0) × (out' ≡ out)

pub record WritesOut (big : Bool) (width : ℕ) (r : Rows) (out : List ℕ) (numbers : WrittenNumbers) (out' : List ℕ) : Type 0 where
  pub answer : Answer
  pub writes : WritesIf (is_width width) (form_for big width) r out answer out'
  pub says : numbers ≡ written_numbers answer
