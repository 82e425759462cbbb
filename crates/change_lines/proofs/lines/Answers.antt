use borrow.Author.Rules.{rules}
use Rattle.change_lines.proofs.lines.Goals as goal

pub loop-i-init : goal.loop-i-init
loop-i-init c = search rules

pub row_at-requires : goal.row_at-requires
row_at-requires c = search rules

pub row_line-now-requires : goal.row_line-now-requires
row_line-now-requires c = search rules

pub loop-i-preserved : goal.loop-i-preserved
loop-i-preserved c = search rules

pub returns : goal.returns
returns c = search rules
