use Rattle.fragments.proofs.Laws.Fragments.{indexing}
use Rattle.fragments.proofs.fragments.next_index.Goals as goal

pub past_kind-a-requires : goal.past_kind-a-requires
past_kind-a-requires c = search indexing

pub returns-then-a-at : goal.returns-then-a-at
returns-then-a-at c = search indexing

pub parse_area_index-requires : goal.parse_area_index-requires
parse_area_index-requires c = search indexing

pub returns : goal.returns
returns c = search indexing
