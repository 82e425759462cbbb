-- Request [6]: a module of any radix, written as X. It goes over only if the ended reading that takes every radix is finished: each record was
-- ended, and no byte is left over.
-- Assumes nothing.
use Rattle.std.specs.Prelude.{ℕ, List, length, leb}
use Rattle.format.specs.Lists.{pick}
use Rattle.format.specs.Outcome.{Outcome, fine, refused}
use Rattle.format.specs.Records.{Verdict, finished, stopped, verdict}
use Rattle.format.specs.Reading.{Read}
use Rattle.halt.specs.Halt.{Halt, any, halt_at}
use Rattle.record_rows.specs.ReadPairs.{roomy}
use Rattle.any_radix.specs.ReadAny.{read_any}
use Rattle.written.specs.Alike.{rewritten}

-- what is answered: the module's refusal, or 15; where the reading stopped, and why; or the text that is written
pub data Converted : Type 0 where
  refusal : (number place : ℕ) → Converted
  stopped_at : (place : ℕ) → Halt → Converted
  written_as : (text : List ℕ) → Converted

-- 15: a text over 65,536 bytes would be refused
unfoldable pub rewrite : List ℕ → Read → Converted
rewrite text r = pick (leb (length (rewritten text r)) 65536) (written_as (rewritten text r)) (refusal 15 0)

abbrev pub by_verdict : List ℕ → Read → Verdict → Converted
by_verdict text r finished = rewrite text r
by_verdict text r (stopped place) = stopped_at place (halt_at r.parsed.form (any r.parsed.records.pairs) text place)

abbrev pub convert_of : List ℕ → Outcome Read → Converted
convert_of text (refused n p) = refusal n p
convert_of text (fine r) = by_verdict text r (verdict text r.parsed)

unfoldable pub convert : List ℕ → Converted
convert text = convert_of text (read_any roomy text)
