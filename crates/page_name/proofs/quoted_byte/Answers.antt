use Rattle.page_name.proofs.Laws.{bytes}
use Rattle.page_name.proofs.quoted_byte.Goals as goal

pub returns-then-byte-eq34 : goal.returns-then-byte-eq34
returns-then-byte-eq34 c = search bytes

pub returns-then-byte-eq39 : goal.returns-then-byte-eq39
returns-then-byte-eq39 c = search bytes

pub returns : goal.returns
returns c = search bytes
