-- In which order a module and a buffer are asked: what the module itself is refused for or stopped at comes before the buffer's room.
-- Assumes nothing.
use Prim.Native.Nat.{ℕ}
use mathlib.Core.Path.{◌≡◌, refl}
use mathlib.Core.List.{List, [], ◌∷◌}
use Rattle.halt.specs.Halt.{Halt}
use Rattle.converted.specs.Convert as the
use Rattle.convert_answer.specs.Converts.{answer_of, bytes, refusal, stopped_at}

-- no buffer changes a module's own refusal
pub a-refusal-is-the-modules-own : (n p : ℕ) (out : List ℕ) → answer_of out (the.refusal n p) ≡ refusal n p
a-refusal-is-the-modules-own n p out = refl

-- nor where it stopped
pub a-stop-is-the-modules-own : (p : ℕ) (h : Halt) (out : List ℕ) → answer_of out (the.stopped_at p h) ≡ stopped_at p h
a-stop-is-the-modules-own p h out = refl

-- a module without a header and a buffer without room: 4, and not 16
four-before-sixteen : answer_of [] (the.refusal 4 0) ≡ refusal 4 0
four-before-sixteen = refl

-- a text of two bytes, and room for one: 16
two-bytes-in-one : answer_of (0 ∷ []) (the.written_as (88 ∷ 76 ∷ [])) ≡ refusal 16 0
two-bytes-in-one = refl

-- and for two
two-bytes-in-two : answer_of (0 ∷ 0 ∷ []) (the.written_as (88 ∷ 76 ∷ [])) ≡ bytes 2
two-bytes-in-two = refl
