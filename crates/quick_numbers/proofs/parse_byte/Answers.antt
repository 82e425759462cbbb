use Rattle.quick_numbers.proofs.Laws.{quick}
use Rattle.quick_numbers.proofs.parse_byte.Goals as goal

pub short_byte-v-requires : goal.short_byte-v-requires
short_byte-v-requires c = search quick

pub overflow_cast-result : goal.overflow_cast-result
overflow_cast-result c = search quick

pub overflow_add-result : goal.overflow_add-result
overflow_add-result c = search quick

pub returns-then-v-lt256 : goal.returns-then-v-lt256
returns-then-v-lt256 c = search quick

pub any_byte-requires : goal.any_byte-requires
any_byte-requires c = search quick

pub returns : goal.returns
returns c = search quick
