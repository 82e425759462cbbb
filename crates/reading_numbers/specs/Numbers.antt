-- A reading's answer as numbers.
-- Assumes nothing.
use Rattle.std.specs.Prelude.{ℕ}
use Rattle.format.specs.Records.{Verdict, finished, stopped}
use Rattle.format.specs.Reading.{Answer, Counts, accepted, refusal}
use Rattle.reading_numbers.specs.declared.ReadNumbers.{ReadNumbers}

-- a refusal's number and place, and nothing else
abbrev pub refused_numbers : (number place : ℕ) → ReadNumbers
refused_numbers n p =
    record { refusal = n; finished = 0; place = p; areas = 0; symbols = 0; lines = 0; kept = 0; positions = 0; fixups = 0 }

-- how much there is, whether it is finished, and the place of the next byte if it is not
abbrev pub counted_numbers : Counts → (finished place : ℕ) → ReadNumbers
counted_numbers c f p = record {
  refusal = 0;
  finished = f;
  place = p;
  areas = c.areas;
  symbols = c.symbols;
  lines = c.lines;
  kept = c.kept;
  positions = c.positions;
  fixups = c.fixups;
}

abbrev pub accepted_numbers : Counts → Verdict → ReadNumbers
accepted_numbers c finished = counted_numbers c 1 0
accepted_numbers c (stopped p) = counted_numbers c 0 p

-- a reading's answer
abbrev pub read_numbers : Answer → ReadNumbers
read_numbers (refusal n p) = refused_numbers n p
read_numbers (accepted c v) = accepted_numbers c v
