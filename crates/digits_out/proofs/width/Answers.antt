use Rattle.digits_out.proofs.Laws.{widths}
use Rattle.digits_out.proofs.width.Goals as goal

pub short_width-requires : goal.short_width-requires
short_width-requires c = search widths

pub returns-then-n-lt65536 : goal.returns-then-n-lt65536
returns-then-n-lt65536 c = search widths

pub returns-then-n-lt1048576 : goal.returns-then-n-lt1048576
returns-then-n-lt1048576 c = search widths

pub returns-then-n-lt16777216 : goal.returns-then-n-lt16777216
returns-then-n-lt16777216 c = search widths

pub returns-then-n-lt268435456 : goal.returns-then-n-lt268435456
returns-then-n-lt268435456 c = search widths

pub returns-else-n-lt268435456 : goal.returns-else-n-lt268435456
returns-else-n-lt268435456 c = search widths
