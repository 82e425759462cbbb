-- The answer to a module that is to be converted as numbers.
-- Assumes nothing.
use Rattle.std.specs.Prelude.{ℕ}
use Rattle.halt.specs.Halt.{Halt}
use Rattle.convert_answer.specs.Converts.{Answer, bytes, refusal, stopped_at}
use Rattle.convert_answer.specs.declared.ConvertNumbers.{ConvertNumbers}

abbrev pub convert_numbers : Answer → ConvertNumbers
convert_numbers (refusal n p) = record { refusal = n; reason = 0; place = p; halt = 0; bytes = 0 }
convert_numbers (stopped_at p h) = record { refusal = 0; reason = h.reason; place = p; halt = h.place; bytes = 0 }
convert_numbers (bytes n) = record { refusal = 0; reason = 0; place = 0; halt = 0; bytes = n }
