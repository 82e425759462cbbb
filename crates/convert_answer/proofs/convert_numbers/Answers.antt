use Rattle.convert_answer.proofs.Laws.{numbers}
use Rattle.convert_answer.proofs.convert_numbers.Goals as goal

pub enum_known-answer : goal.enum_known-answer
enum_known-answer c = search numbers

pub enum_known-answer-in-Stopped-1 : goal.enum_known-answer-in-Stopped-1
enum_known-answer-in-Stopped-1 c = search numbers

pub enum_known-answer-in-Bytes-1 : goal.enum_known-answer-in-Bytes-1
enum_known-answer-in-Bytes-1 c = search numbers

pub wide-requires : goal.wide-requires
wide-requires c = search numbers

pub returns-in-Refusal : goal.returns-in-Refusal
returns-in-Refusal c = search numbers

pub returns-in-Stopped : goal.returns-in-Stopped
returns-in-Stopped c = search numbers

pub returns-in-Bytes : goal.returns-in-Bytes
returns-in-Bytes c = search numbers
