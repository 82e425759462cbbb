use Rattle.steps.proofs.PairLines.{pairing, lefts}
use Rattle.steps.proofs.pair.read_pair.Goals as goal

pub returns-in_default : goal.returns-in_default
returns-in_default c = record { pair_is = search pairing; left = search lefts }

pub returns-in_default-parse_reloc_line : goal.returns-in_default-parse_reloc_line
returns-in_default-parse_reloc_line c = record { pair_is = search pairing; left = search lefts }

pub overflow_add-result : goal.overflow_add-result
overflow_add-result c = search pairing

pub returns : goal.returns
returns c = record { pair_is = search pairing; left = search lefts }
