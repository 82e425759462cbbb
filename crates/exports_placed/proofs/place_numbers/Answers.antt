use Rattle.exports_placed.proofs.Placing.{numbers}
use Rattle.exports_placed.proofs.place_numbers.Goals as goal

pub enum_known-p : goal.enum_known-p
enum_known-p c = search numbers

pub refusal_numbers-requires : goal.refusal_numbers-requires
refusal_numbers-requires c = search numbers

pub enum_known-p-in-Done-1 : goal.enum_known-p-in-Done-1
enum_known-p-in-Done-1 c = search numbers

pub code_numbers-requires : goal.code_numbers-requires
code_numbers-requires c = search numbers

pub returns-in-Refusal : goal.returns-in-Refusal
returns-in-Refusal c = search numbers

pub returns-in-Done : goal.returns-in-Done
returns-in-Done c = search numbers
