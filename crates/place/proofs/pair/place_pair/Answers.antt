use Rattle.place.proofs.PairLaws.{placing}
use Rattle.place.proofs.pair.place_pair.Goals as goal

pub returns-then-not-home_fits : goal.returns-then-not-home_fits
returns-then-not-home_fits c = search placing

pub process_relocs-requires : goal.process_relocs-requires
process_relocs-requires c = search placing

pub returns-in-Unkept : goal.returns-in-Unkept
returns-in-Unkept c = search placing

pub returns-in-Misfit : goal.returns-in-Misfit
returns-in-Misfit c = search placing

pub returns-in-At : goal.returns-in-At
returns-in-At c = search placing
