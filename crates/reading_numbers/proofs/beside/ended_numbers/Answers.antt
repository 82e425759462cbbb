use Rattle.reading_numbers.proofs.Laws.{ended-numbers}
use Rattle.reading_numbers.proofs.beside.ended_numbers.Goals as goal

pub enum_known-answer : goal.enum_known-answer
enum_known-answer c = search ended-numbers

pub refused-requires : goal.refused-requires
refused-requires c = search ended-numbers

pub with_halt-requires : goal.with_halt-requires
with_halt-requires c = search ended-numbers

pub enum_known-answer-in-Accepted-1 : goal.enum_known-answer-in-Accepted-1
enum_known-answer-in-Accepted-1 c = search ended-numbers

pub word_number-requires : goal.word_number-requires
word_number-requires c = search ended-numbers

pub accepted_ended-requires : goal.accepted_ended-requires
accepted_ended-requires c = search ended-numbers

pub returns-in-Refusal : goal.returns-in-Refusal
returns-in-Refusal c = search ended-numbers

pub returns-in-Accepted : goal.returns-in-Accepted
returns-in-Accepted c = search ended-numbers
