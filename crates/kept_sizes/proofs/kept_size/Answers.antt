use Rattle.kept_sizes.proofs.KeptSizes.{sizing}
use Rattle.kept_sizes.proofs.kept_size.Goals as goal

pub returns-then-is_code : goal.returns-then-is_code
returns-then-is_code c = (search sizing, search sizing)

pub returns : goal.returns
returns c = (search sizing, search sizing)
