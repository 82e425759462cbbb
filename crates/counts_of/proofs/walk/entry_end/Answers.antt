use Rattle.counts_of.proofs.Laws.Line.{ends, end-1, end-2, end-3}
use Rattle.counts_of.proofs.walk.entry_end.Goals as goal

pub returns-then-t-p : goal.returns-then-t-p
returns-then-t-p c = search ends

pub returns-in_default : goal.returns-in_default
returns-in_default c = end-1 _ _ _ c.line_at-l.ensures c.parse_entry.ensures c.in_default.is

pub returns-then-whole : goal.returns-then-whole
returns-then-whole c = end-3 _ _ _ c.line_at-l.ensures c.parse_entry.ensures c.in-Ok.is c.whole.ensures c.if-whole.true

pub returns : goal.returns
returns c = end-2 _ _ _ c.line_at-l.ensures c.parse_entry.ensures c.in-Ok.is c.whole.ensures c.if-whole.false
