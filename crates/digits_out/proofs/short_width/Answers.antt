use Rattle.digits_out.proofs.Laws.{widths}
use Rattle.digits_out.proofs.short_width.Goals as goal

pub returns-then-n-lt16 : goal.returns-then-n-lt16
returns-then-n-lt16 c = search widths

pub returns-then-n-lt256 : goal.returns-then-n-lt256
returns-then-n-lt256 c = search widths

pub returns-then-n-lt4096 : goal.returns-then-n-lt4096
returns-then-n-lt4096 c = search widths

pub returns-else-n-lt4096 : goal.returns-else-n-lt4096
returns-else-n-lt4096 c = search widths
