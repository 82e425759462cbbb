-- The exported readings' contract.
-- Assumes nothing.
use Rattle.std.specs.Prelude.{ℕ, ◌≡◌, Bool, true, List}
use Rattle.std.proofs.Math.Option.{some}
use Rattle.format.specs.Lists.{over}
use Rattle.format.specs.Reading.{Answer, reading}
use Rattle.format.specs.Held.{Held, lengths}
use Rattle.halt.specs.Halt.{halt_of}
use Rattle.counts.specs.Counts.{told_counts}
use Rattle.ended_answer.specs.Answer.{if_accepted}
use Rattle.reading_numbers.specs.Ended.{ended_numbers}
use Rattle.reading_numbers.specs.declared.beside.EndedNumbers.{EndedNumbers}
use Rattle.reading_numbers.specs.Numbers.{read_numbers}
use Rattle.reading_numbers.specs.declared.ReadNumbers.{ReadNumbers}

-- the contract: the paper's answer as numbers, and each buffer's rows over what it held
pub record Answers (ended : Bool) (text : List ℕ) (old : Held) (numbers : ReadNumbers) (new : Held) : Type 0 where
  pub says : numbers ≡ read_numbers (reading ended (lengths old) text).answer
  pub areas : new.areas ≡ over (reading ended (lengths old) text).areas old.areas
  pub symbols : new.symbols ≡ over (reading ended (lengths old) text).symbols old.symbols
  pub values : new.values ≡ over (reading ended (lengths old) text).values old.values
  pub masks : new.masks ≡ over (reading ended (lengths old) text).masks old.masks
  pub fixups : new.fixups ≡ over (reading ended (lengths old) text).fixups old.fixups

-- the numbers of the ended reading: with the halt and the H line's word of a text that is accepted
abbrev pub ended_for : List ℕ → Answer → EndedNumbers
ended_for text a = ended_numbers a (if_accepted a (halt_of text)) (if_accepted a (some (told_counts text)))

-- the contract of the ended reading
pub record EndedAnswers (text : List ℕ) (old : Held) (numbers : EndedNumbers) (new : Held) : Type 0 where
  pub says : numbers ≡ ended_for text (reading true (lengths old) text).answer
  pub areas : new.areas ≡ over (reading true (lengths old) text).areas old.areas
  pub symbols : new.symbols ≡ over (reading true (lengths old) text).symbols old.symbols
  pub values : new.values ≡ over (reading true (lengths old) text).values old.values
  pub masks : new.masks ≡ over (reading true (lengths old) text).masks old.masks
  pub fixups : new.fixups ≡ over (reading true (lengths old) text).fixups old.fixups
