use Rattle.position_answer.proofs.Laws.{numbers}
use Rattle.position_answer.proofs.explain_numbers.Goals as goal

pub enum_known-e : goal.enum_known-e
enum_known-e c = search numbers

pub enum_told-1 : goal.enum_told-1
enum_told-1 c = search numbers

pub enum_known-e-in-Wrote-1 : goal.enum_known-e-in-Wrote-1
enum_known-e-in-Wrote-1 c = search numbers

pub overflow_cast-result : goal.overflow_cast-result
overflow_cast-result c = search numbers

pub overflow_cast-result-in-Wrote : goal.overflow_cast-result-in-Wrote
overflow_cast-result-in-Wrote c = search numbers

pub overflow_cast-result-in-Wrote-2 : goal.overflow_cast-result-in-Wrote-2
overflow_cast-result-in-Wrote-2 c = search numbers

pub returns-in-Refused : goal.returns-in-Refused
returns-in-Refused c = search numbers

pub returns-in-Unwritten : goal.returns-in-Unwritten
returns-in-Unwritten c = search numbers

pub returns-in-Wrote : goal.returns-in-Wrote
returns-in-Wrote c = search numbers
