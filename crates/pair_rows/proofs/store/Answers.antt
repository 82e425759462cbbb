use Rattle.pair_rows.proofs.Laws.{stores}
use Rattle.pair_rows.proofs.store.Goals as goal

pub is_low-requires : goal.is_low-requires
is_low-requires c = search stores

pub returns-then-not-is_low : goal.returns-then-not-is_low
returns-then-not-is_low c = search stores

pub store_low-requires : goal.store_low-requires
store_low-requires c = search stores

pub shape_of-pairs : goal.shape_of-pairs
shape_of-pairs c = search stores

pub shape_of-content : goal.shape_of-content
shape_of-content c = search stores

pub shape_of-fragments : goal.shape_of-fragments
shape_of-fragments c = search stores

pub returns : goal.returns
returns c = search stores
