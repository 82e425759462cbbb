use Rattle.good_rows.proofs.Laws.{pairing}
use Rattle.good_rows.proofs.pairs.pair_good.Goals as goal

pub pair_cell-requires : goal.pair_cell-requires
pair_cell-requires c = search pairing

pub address_good-requires : goal.address_good-requires
address_good-requires c = search pairing

pub returns-then-not-address_good : goal.returns-then-not-address_good
returns-then-not-address_good c = search pairing

pub pair_cell-requires-2 : goal.pair_cell-requires-2
pair_cell-requires-2 c = search pairing

pub returns-then-pair_cell-ge65536 : goal.returns-then-pair_cell-ge65536
returns-then-pair_cell-ge65536 c = search pairing

pub pair_cell-requires-3 : goal.pair_cell-requires-3
pair_cell-requires-3 c = search pairing

pub wide-requires : goal.wide-requires
wide-requires c = search pairing

pub pair_cell-requires-4 : goal.pair_cell-requires-4
pair_cell-requires-4 c = search pairing

pub wide-requires-2 : goal.wide-requires-2
wide-requires-2 c = search pairing

pub overflow_add-end : goal.overflow_add-end
overflow_add-end c = search pairing

pub returns-then-content-end : goal.returns-then-content-end
returns-then-content-end c = search pairing

pub pair_cell-requires-5 : goal.pair_cell-requires-5
pair_cell-requires-5 c = search pairing

pub pair_cell-requires-6 : goal.pair_cell-requires-6
pair_cell-requires-6 c = search pairing

pub fragments_good-requires : goal.fragments_good-requires
fragments_good-requires c = search pairing

pub returns : goal.returns
returns c = search pairing
