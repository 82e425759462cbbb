use Rattle.work.proofs.AllLaws.{lining}
use Rattle.work.proofs.work_line.Goals as goal

pub work_all-requires : goal.work_all-requires
work_all-requires c = record { short = search lining; in_bounds = search lining }

pub returns : goal.returns
returns c = search lining
