use Rattle.answer_numbers.proofs.Laws.{numbers}
use Rattle.answer_numbers.proofs.answers.address_length.Goals as goal

pub enum_told-1 : goal.enum_told-1
enum_told-1 c = search numbers

pub enum_told-in-Three : goal.enum_told-in-Three
enum_told-in-Three c = search numbers

pub enum_told-in-Four : goal.enum_told-in-Four
enum_told-in-Four c = search numbers

pub returns-in-Two : goal.returns-in-Two
returns-in-Two c = search numbers

pub returns-in-Three : goal.returns-in-Three
returns-in-Three c = search numbers

pub returns-in-Four : goal.returns-in-Four
returns-in-Four c = search numbers
