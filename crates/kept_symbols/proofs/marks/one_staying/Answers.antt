use Rattle.kept_symbols.proofs.Laws.Marks.{single}
use Rattle.kept_symbols.proofs.marks.one_staying.Goals as goal

pub byte_at-requires : goal.byte_at-requires
byte_at-requires c = search single

pub returns-then-byte_at-eq1 : goal.returns-then-byte_at-eq1
returns-then-byte_at-eq1 c = search single

pub returns : goal.returns
returns c = search single
