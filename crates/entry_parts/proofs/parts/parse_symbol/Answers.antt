use Rattle.entry_parts.proofs.Laws.Parts.{titles}
use Rattle.entry_parts.proofs.parts.parse_symbol.Goals as goal

pub past_kind-end-requires : goal.past_kind-end-requires
past_kind-end-requires c = search titles

pub returns-then-end-at : goal.returns-then-end-at
returns-then-end-at c = search titles

pub overflow_sub-result : goal.overflow_sub-result
overflow_sub-result c = search titles

pub returns : goal.returns
returns c = search titles
