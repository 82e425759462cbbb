use Rattle.good_entries.proofs.Laws.{areas}
use Rattle.good_entries.proofs.entries.areas_good.Goals as goal

pub loop-i-init : goal.loop-i-init
loop-i-init c = search areas

pub area_name-requires : goal.area_name-requires
area_name-requires c = search areas

pub name_good-requires : goal.name_good-requires
name_good-requires c = search areas

pub returns-then-not-name_good : goal.returns-then-not-name_good
returns-then-not-name_good c = search areas

pub loop-i-preserved : goal.loop-i-preserved
loop-i-preserved c = search areas

pub returns : goal.returns
returns c = search areas
