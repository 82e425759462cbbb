use Rattle.answer_numbers.proofs.Laws.{numbers}
use Rattle.answer_numbers.proofs.answers.header_numbers.Goals as goal

pub enum_known-head : goal.enum_known-head
enum_known-head c = search numbers

pub enum_told-1 : goal.enum_told-1
enum_told-1 c = search numbers

pub returns-in_default : goal.returns-in_default
returns-in_default c = search numbers

pub wide-requires : goal.wide-requires
wide-requires c = search numbers

pub flag_of-requires : goal.flag_of-requires
flag_of-requires c = search numbers

pub address_length-requires : goal.address_length-requires
address_length-requires c = search numbers

pub returns : goal.returns
returns c = search numbers
