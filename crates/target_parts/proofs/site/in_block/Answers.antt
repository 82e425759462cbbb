use Rattle.target_parts.proofs.StartLaws.{closings}
use Rattle.target_parts.proofs.site.in_block.Goals as goal

pub returns-in-Addr19 : goal.returns-in-Addr19
returns-in-Addr19 c = search closings

pub returns-in-Addr11 : goal.returns-in-Addr11
returns-in-Addr11 c = search closings
