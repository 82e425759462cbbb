-- What is answered to rows that are to be written, and what the lent buffer holds afterwards.
-- Assumes nothing.
use Rattle.std.specs.Prelude.{ℕ, Bool, false, true, List, length, leb, Result, Ok, Err}
use Rattle.format.specs.Lists.{over, pick}
use Rattle.written_answer.specs.declared.Refusal.{Refusal}

-- a refusal with its number and place, or how many bytes were written
pub data Answer : Type 0 where
  refusal : (number place : ℕ) → Answer
  bytes : (count : ℕ) → Answer

abbrev pub told : Result ℕ Refusal → Answer
told (Err r) = refusal r.number r.place
told (Ok n) = bytes n

-- 15 for rows that are not given back, then 16 for too little room, for a text of n bytes
unfoldable pub answer_of : (gives : Bool) (n : ℕ) (out : List ℕ) → Answer
answer_of gives n out = pick gives (pick (leb n (length out)) (bytes n) (refusal 16 0)) (refusal 15 0)

-- a refusal leaves the buffer as it was; behind what was written it keeps its bytes
unfoldable pub held_of : (gives : Bool) (n : ℕ) (w out : List ℕ) → List ℕ
held_of gives n w out = pick gives (pick (leb n (length out)) (over w out) out) out

-- a flag that says whether something holds
abbrev pub Tells : Bool → Type 0 → Type 0
Tells true P = P
Tells false P = P → ⊥
