-- The steps of the code: the bytes of an array of its own, laid over the lent buffer if they are a text that is read.
-- Assumes nothing.
use Rattle.std.specs.Prelude.{ℕ, ◌≤◌, ◌≡◌, Bool, List, length, take}
use Rattle.format.specs.Header.{Form}
use Rattle.digits_out.specs.Wrote.{Wrote}
use Rattle.admission.specs.Admits.{IsRead}
use Rattle.row_texts.specs.RowRecords.{Rows}
use Rattle.rows_out.specs.RowsOut.{all_out}
use Rattle.written_answer.specs.Answer.{Answer, Tells, answer_of, held_of}

-- the first n bytes lie in the array and are a text that the ended reading accepts
pub record Stands (own : List ℕ) (n : ℕ) : Type 0 where
  pub inside : n ≤ length own
  pub is_read : IsRead (take n own)

pub record Lays (own : List ℕ) (n : ℕ) (out : List ℕ) (a : Answer) (out' : List ℕ) : Type 0 where
  pub gives : Bool
  pub tells : Tells gives (Stands own n)
  pub says : a ≡ answer_of gives n out
  pub held : out' ≡ held_of gives n (take n own) out

-- all lines of some rows are written first
pub record LaysAll (f : Form) (r : Rows) (own out : List ℕ) (a : Answer) (out' : List ℕ) : Type 0 where
  pub own' : List ℕ
  pub n : ℕ
  pub wrote : Wrote (all_out f r) own 0 n own'
  pub lays : Lays own' n out a out'
