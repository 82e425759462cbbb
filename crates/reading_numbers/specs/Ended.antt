-- The ended reading's answer as numbers: document 01's, the halt, and the H line's word.
-- Assumes nothing.
use Rattle.std.specs.Prelude.{ℕ}
use Rattle.std.proofs.Math.Option.{Option, none, some}
use Rattle.format.specs.Records.{Verdict}
use Rattle.format.specs.Reading.{Answer, Counts, accepted}
use Rattle.halt.specs.Halt.{Halt}
use Rattle.counts.specs.Counts.{Counted, equal, not_equal, not_told}
use Rattle.reading_numbers.specs.Numbers.{accepted_numbers, read_numbers}
use Rattle.reading_numbers.specs.declared.ReadNumbers.{ReadNumbers}
use Rattle.reading_numbers.specs.declared.beside.EndedNumbers.{EndedNumbers}

-- a reading's numbers, and three more
abbrev pub with_halt : ReadNumbers → (reason halt word : ℕ) → EndedNumbers
with_halt n reason halt word = record {
  refusal = n.refusal;
  finished = n.finished;
  place = n.place;
  areas = n.areas;
  symbols = n.symbols;
  lines = n.lines;
  kept = n.kept;
  positions = n.positions;
  fixups = n.fixups;
  reason = reason;
  counted = word;
  halt = halt;
}

-- 1 equal, 2 not equal, 3 not told
abbrev pub word_number : Counted → ℕ
word_number equal = 1
word_number not_equal = 2
word_number not_told = 3

-- 0 where nothing is said
abbrev pub word_or_none : Option Counted → ℕ
word_or_none none = 0
word_or_none (some w) = word_number w

-- the halt's reason and place, 0 and 0 where there is none
abbrev pub halt_numbers : ReadNumbers → Option Halt → ℕ → EndedNumbers
halt_numbers n none word = with_halt n 0 0 word
halt_numbers n (some h) word = with_halt n h.reason h.place word

-- an accepted text
abbrev pub accepted_ended : Counts → Verdict → Option Halt → ℕ → EndedNumbers
accepted_ended c v h word = halt_numbers (accepted_numbers c v) h word

-- the ended reading's answer
abbrev pub ended_numbers : Answer → Option Halt → Option Counted → EndedNumbers
ended_numbers a h w = halt_numbers (read_numbers a) h (word_or_none w)
