use Rattle.std.proofs.Common.{rules}
use Rattle.fixup_list.proofs.Laws.{finished-start, finished-next, finished-end}
use Rattle.fixup_list.proofs.list.take_rows.Goals as goal

ruleset taking = (rules, finished-start, finished-next, finished-end)

pub loop-i-init : goal.loop-i-init
loop-i-init c = search taking

pub loop-i-preserved : goal.loop-i-preserved
loop-i-preserved c = search taking

pub returns : goal.returns
returns c = search taking
