use Rattle.page_name.proofs.Laws.{bytes}
use Rattle.page_name.proofs.page_byte.Goals as goal

pub returns-then-byte-eq60 : goal.returns-then-byte-eq60
returns-then-byte-eq60 c = search bytes

pub returns-then-byte-eq62 : goal.returns-then-byte-eq62
returns-then-byte-eq62 c = search bytes

pub returns-then-byte-eq38 : goal.returns-then-byte-eq38
returns-then-byte-eq38 c = search bytes

pub returns : goal.returns
returns c = search bytes
