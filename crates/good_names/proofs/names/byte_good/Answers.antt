use Rattle.good_names.proofs.Laws.{bytes}
use Rattle.good_names.proofs.names.byte_good.Goals as goal

pub returns-then-b-ge-FIRST_HIGH : goal.returns-then-b-ge-FIRST_HIGH
returns-then-b-ge-FIRST_HIGH c = search bytes

pub returns-then-b-eq32 : goal.returns-then-b-eq32
returns-then-b-eq32 c = search bytes

pub returns-then-b-eq9 : goal.returns-then-b-eq9
returns-then-b-eq9 c = search bytes

pub returns-then-b-eq13 : goal.returns-then-b-eq13
returns-then-b-eq13 c = search bytes

pub returns : goal.returns
returns c = search bytes
