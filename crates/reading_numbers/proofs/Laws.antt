-- From a reading's answer to its numbers.
-- Assumes nothing.
use Prim.Native.Nat.{ℕ}
use mathlib.Core.Path.{◌≡◌, ◌∙◌, ap, sym}
use borrow.Author.Rules.{rules}
use Rattle.format.specs.Reading as the
use Rattle.std.specs.Prelude.{Ok, Err}
use Rattle.answer.specs.Answer.{Answer, told_counts, told, told_verdict}
use Rattle.answer.specs.declared.Accepted.{Accepted}
use Rattle.answer.specs.declared.Refusal.{Refusal}
use Rattle.answer.specs.declared.Counts.{Counts}
use Rattle.answer.specs.declared.Verdict.{Verdict}
use Rattle.answer.specs.declared.Verdict.TheVariants.{Finished, Stopped}
use Rattle.counts_of.specs.Told.{told_counted}
use Rattle.counts_of.specs.declared.Counted.{Counted}
use Rattle.counts_of.specs.declared.Counted.TheVariants.{Equal, NotEqual, NotTold}
use Rattle.ended_answer.specs.Answer as ends
use Rattle.ended_answer.specs.declared.Verdict as ended
use Rattle.ended_answer.specs.declared.Verdict.TheVariants as ended-verdict
use Rattle.ended_answer.specs.declared.Answer as ended-answer
use Rattle.ended_answer.specs.declared.Answer.TheVariants as ended-said
use Rattle.reading_numbers.specs.Ended.{accepted_ended, ended_numbers, with_halt, word_number}
use Rattle.reading_numbers.specs.declared.beside.EndedNumbers.{EndedNumbers}
use Rattle.reading_numbers.specs.Numbers.{accepted_numbers, counted_numbers, read_numbers, refused_numbers}
use Rattle.reading_numbers.specs.declared.ReadNumbers.{ReadNumbers}

pub finished-numbers : {v : Verdict} {c : the.Counts} {r : ReadNumbers} → v ≡ Finished → r ≡ counted_numbers c 1 0 → r ≡ accepted_numbers c (told_verdict v)
finished-numbers {v} {c} e f = f ∙ sym (ap (λ (x : Verdict). accepted_numbers c (told_verdict x)) e)

pub stopped-numbers : {v : Verdict} {c : the.Counts} {p : ℕ} {r : ReadNumbers} → v ≡ Stopped p → r ≡ counted_numbers c 0 p → r ≡ accepted_numbers c (told_verdict v)
stopped-numbers {v} {c} e f = f ∙ sym (ap (λ (x : Verdict). accepted_numbers c (told_verdict x)) e)

pub refusal-numbers : {a : Answer} {z : Refusal} {r : ReadNumbers} → a ≡ Err z → r ≡ refused_numbers z.number z.place → r ≡ read_numbers (told a)
refusal-numbers e f = f ∙ sym (ap (λ (x : Answer). read_numbers (told x)) e)

pub answer-numbers : {a : Answer} {x : Accepted} {r : ReadNumbers}
    → a ≡ Ok x → r ≡ accepted_numbers (told_counts x.counts) (told_verdict x.verdict) → r ≡ read_numbers (told a)
answer-numbers e f = f ∙ sym (ap (λ (x : Answer). read_numbers (told x)) e)

pub ruleset numbers = (rules, finished-numbers, stopped-numbers, refusal-numbers, answer-numbers)

-- `word_number`, `accepted_ended`, `ended_numbers`
pub word-equal : {w : Counted} → w ≡ Equal → 1 ≡ word_number (told_counted w)
word-equal e = sym (ap (λ (x : Counted). word_number (told_counted x)) e)

pub word-not-equal : {w : Counted} → w ≡ NotEqual → 2 ≡ word_number (told_counted w)
word-not-equal e = sym (ap (λ (x : Counted). word_number (told_counted x)) e)

pub word-not-told : {w : Counted} → w ≡ NotTold → 3 ≡ word_number (told_counted w)
word-not-told e = sym (ap (λ (x : Counted). word_number (told_counted x)) e)

module _ {c : the.Counts} {v : ended.Verdict} {n : ReadNumbers} {word : ℕ} {r : EndedNumbers} where
  pub finished-ended : v ≡ ended-verdict.Finished → n ≡ counted_numbers c 1 0 → r ≡ with_halt n 0 0 word → r ≡ accepted_ended c (ends.told_verdict v) (ends.halt_in v) word
  finished-ended e f g = g ∙ ap (λ (x : ReadNumbers). with_halt x 0 0 word) f ∙ sym (ap (λ (x : ended.Verdict). accepted_ended c (ends.told_verdict x) (ends.halt_in x) word) e)

  pub stopped-ended : {p reason reason' halt : ℕ} → v ≡ ended-verdict.Stopped p reason halt → n ≡ counted_numbers c 0 p → reason' ≡ reason → r ≡ with_halt n reason' halt word
      → r ≡ accepted_ended c (ends.told_verdict v) (ends.halt_in v) word
  stopped-ended {p} {reason} {reason'} {halt} e f i g =
      g
      ∙ ap (λ (x : ℕ). with_halt n x halt word) i
      ∙ ap (λ (x : ReadNumbers). with_halt x reason halt word) f
      ∙ sym (ap (λ (x : ended.Verdict). accepted_ended c (ends.told_verdict x) (ends.halt_in x) word) e)

module _ {a : ended-answer.Answer} {r : EndedNumbers} where
  pub refusal-ended : {n p : ℕ} {m : ReadNumbers} → a ≡ ended-said.Refusal n p → m ≡ refused_numbers n p → r ≡ with_halt m 0 0 0 → r ≡ ended_numbers (ends.told a) (ends.told_halt a) (ends.told_word a)
  refusal-ended e f g = g ∙ ap (λ (x : ReadNumbers). with_halt x 0 0 0) f ∙ sym (ap (λ (x : ended-answer.Answer). ended_numbers (ends.told x) (ends.told_halt x) (ends.told_word x)) e)

  pub accepted-ended : {c : Counts} {v : ended.Verdict} {w : Counted} {word : ℕ} → a ≡ ended-said.Accepted c v w → word ≡ word_number (told_counted w)
      → r ≡ accepted_ended (told_counts c) (ends.told_verdict v) (ends.halt_in v) word → r ≡ ended_numbers (ends.told a) (ends.told_halt a) (ends.told_word a)
  accepted-ended {c} {v} e f g =
      g
      ∙ ap (accepted_ended (told_counts c) (ends.told_verdict v) (ends.halt_in v)) f
      ∙ sym (ap (λ (x : ended-answer.Answer). ended_numbers (ends.told x) (ends.told_halt x) (ends.told_word x)) e)

pub ruleset ended-numbers = (rules, word-equal, word-not-equal, word-not-told, finished-ended, stopped-ended, refusal-ended, accepted-ended)
