-- The writer's answer as that to a module that is to be converted.
-- Assumes nothing.
use Rattle.std.specs.Prelude.{ℕ}
use Rattle.written_answer.specs.Answer as writing
use Rattle.convert_answer.specs.Converts.{Answer, bytes, refusal}

abbrev pub written : writing.Answer → Answer
written (writing.refusal n p) = refusal n p
written (writing.bytes n) = bytes n
