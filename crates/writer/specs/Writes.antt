-- The contract of the writer: what is answered to rows, and what the lent buffer holds afterwards.
-- Assumes nothing.
use Rattle.std.specs.Prelude.{ℕ, ◌≡◌, Bool, List, length}
use Rattle.format.specs.Header.{Form}
use Rattle.row_texts.specs.RowRecords.{Rows, text_of}
use Rattle.row_texts.specs.GivesBack.{GivesBack}
use Rattle.written_answer.specs.Answer.{Answer, Tells, answer_of, held_of}

pub record Writes (f : Form) (r : Rows) (out : List ℕ) (a : Answer) (out' : List ℕ) : Type 0 where
  pub gives : Bool
  pub tells : Tells gives (GivesBack f r)
  pub says : a ≡ answer_of gives (length (text_of f r)) out
  pub held : out' ≡ held_of gives (length (text_of f r)) (text_of f r) out
