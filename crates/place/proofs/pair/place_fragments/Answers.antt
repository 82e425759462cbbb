use Rattle.place.proofs.WorkedLaws.{processing, prepared, pair-processed}
use Rattle.place.proofs.pair.place_fragments.Goals as goal

pub returns : goal.returns
returns c = pair-processed c.args.site _ _ _ _ _ _ _ _ _ (prepared c.args.site _ _ _ _ c.requires c.work_line-worked.ensures) c.place_worked.ensures
