-- What is answered to a module that is to be converted, and what the lent buffer holds afterwards.
-- Assumes nothing.
use Rattle.std.specs.Prelude.{ℕ, ◌≡◌, List, length, leb}
use Rattle.format.specs.Lists.{over, pick}
use Rattle.halt.specs.Halt.{Halt}
use Rattle.converted.specs.Convert as the
use Rattle.converted.specs.Convert.{convert}
use Rattle.convert_answer.specs.declared.Converted.{Converted}
use Rattle.convert_answer.specs.declared.Converted.TheVariants.{Bytes, Refusal, Stopped}

-- a refusal with its number and place; where it stopped, and the halt there; or how many bytes were written
pub data Answer : Type 0 where
  refusal : (number place : ℕ) → Answer
  stopped_at : (place : ℕ) → Halt → Answer
  bytes : (count : ℕ) → Answer

abbrev pub told : Converted → Answer
told (Refusal n p) = refusal n p
told (Stopped p r h) = stopped_at p (record { reason = r; place = h })
told (Bytes n) = bytes n

-- 16 for a text that the buffer has no room for, behind all else
abbrev pub answer_of : (out : List ℕ) → the.Converted → Answer
answer_of out (the.refusal n p) = refusal n p
answer_of out (the.stopped_at p h) = stopped_at p h
answer_of out (the.written_as w) = pick (leb (length w) (length out)) (bytes (length w)) (refusal 16 0)

-- the buffer stays as it was, but where a text is written: behind the text it keeps its bytes
abbrev pub held_of : (out : List ℕ) → the.Converted → List ℕ
held_of out (the.refusal n p) = out
held_of out (the.stopped_at p h) = out
held_of out (the.written_as w) = pick (leb (length w) (length out)) (over w out) out

-- the contract
pub record Converts (text out : List ℕ) (a : Answer) (out' : List ℕ) : Type 0 where
  pub says : a ≡ answer_of out (convert text)
  pub held : out' ≡ held_of out (convert text)
