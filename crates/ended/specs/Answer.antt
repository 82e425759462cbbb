-- The contract of the ended reading: document 01's answer, and beside it the halt of a reading that stopped and the H line's word.
-- Assumes nothing.
use Rattle.std.specs.Prelude.{ℕ, ◌≡◌, true, List, Ok, Err, length}
use Rattle.std.proofs.Math.Option.{some}
use Rattle.format.specs.Outcome.{fine}
use Rattle.format.specs.Records as the
use Rattle.format.specs.Tables.{Tables, tables}
use Rattle.format.specs.Reading as paper
use Rattle.format.specs.Held.{Held, Meets}
use Rattle.halt.specs.Halt.{halt_of}
use Rattle.counts.specs.Counts as the-counts
use Rattle.answer.specs.Answer as reads
use Rattle.answer.specs.declared.Counts.{Counts}
use Rattle.answer.specs.declared.Verdict as reading
use Rattle.ended_answer.specs.Answer.{if_accepted, told, told_halt, told_word}
use Rattle.ended_answer.specs.declared.Answer.{Answer}

-- the contract: document 01's answer and buffers; the halt of the text; the H line's word
pub record Answers (text : List ℕ) (old : Held) (r : Answer) (new : Held) : Type 0 where
  pub reads : Meets true text old (told r) new
  pub halts : told_halt r ≡ if_accepted (told r) (halt_of text)
  pub counts : told_word r ≡ if_accepted (told r) (some (the-counts.told_counts text))

-- what the counts and the verdict of an accepted text are
pub record Read (text : List ℕ) (c : Counts) (v : reading.Verdict) : Type 0 where
  pub records : the.Parsed
  pub rows : Tables
  pub parses : the.parsed true text ≡ fine records
  pub tables : tables records.records.entries ≡ fine rows
  pub areas : c.areas ≡ length rows.areas
  pub symbols : c.symbols ≡ length rows.symbols
  pub verdict : reads.told_verdict v ≡ the.verdict text records

-- a refusal, or an accepted text
abbrev pub WasRead : List ℕ → reads.Answer → Type 0
WasRead text (Err r) = Unit {0}
WasRead text (Ok a) = Read text a.counts a.verdict

-- what is told beside document 01's answer
pub record Beside (text : List ℕ) (a : paper.Answer) (r : Answer) : Type 0 where
  pub same : told r ≡ a
  pub halts : told_halt r ≡ if_accepted a (halt_of text)
  pub counts : told_word r ≡ if_accepted a (some (the-counts.told_counts text))
