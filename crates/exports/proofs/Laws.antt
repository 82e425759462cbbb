-- From a reading's contract to the exported one's.
-- Assumes nothing.
use Prim.Native.Nat.{ℕ}
use mathlib.Core.Path.{◌≡◌, ◌∙◌, ap}
use mathlib.Core.Bool.{Bool}
use mathlib.Core.List.{List}
use mathlib.Core.Option.{Option}
use borrow.Author.Rules.{rules}
use Rattle.format.specs.Reading as the
use Rattle.format.specs.Held.{Held, Meets}
use Rattle.halt.specs.Halt.{Halt, halt_of}
use Rattle.counts.specs.Counts.{Counted}
use Rattle.ended_answer.specs.Answer as ends
use Rattle.ended_answer.specs.declared.Answer as ended
use Rattle.ended.specs.Answer as ended-reading
use Rattle.reading_numbers.specs.Ended.{ended_numbers}
use Rattle.reading_numbers.specs.declared.beside.EndedNumbers.{EndedNumbers}
use Rattle.reading_numbers.specs.Numbers.{read_numbers}
use Rattle.reading_numbers.specs.declared.ReadNumbers.{ReadNumbers}
use Rattle.exports.specs.Answers.{Answers, EndedAnswers, ended_for}

-- a reading that meets its contract answers with the paper's numbers and rows
pub answers : {ended : Bool} {text : List ℕ} {old new : Held} {a : the.Answer} {r : ReadNumbers} → r ≡ read_numbers a → Meets ended text old a new → Answers ended text old r new
answers f m = record {
  says = f ∙ ap read_numbers m.says;
  areas = m.areas;
  symbols = m.symbols;
  values = m.values;
  masks = m.masks;
  fixups = m.fixups;
}

-- the same of the ended reading
pub ended-answers : {text : List ℕ} {old new : Held} (a : ended.Answer) {r : EndedNumbers}
    → r ≡ ended_numbers (ends.told a) (ends.told_halt a) (ends.told_word a) → ended-reading.Answers text old a new → EndedAnswers text old r new
ended-answers {text} a f m = record {
  says =
      f
      ∙ ap (λ (h : Option Halt). ended_numbers (ends.told a) h (ends.told_word a)) m.halts
      ∙ ap (λ (w : Option Counted). ended_numbers (ends.told a) (ends.if_accepted (ends.told a) (halt_of text)) w) m.counts
      ∙ ap (ended_for text) m.reads.says;
  areas = m.reads.areas;
  symbols = m.reads.symbols;
  values = m.reads.values;
  masks = m.reads.masks;
  fixups = m.reads.fixups;
}

pub ruleset numbers = (rules, answers, ended-answers)
