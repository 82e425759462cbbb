use Rattle.work.proofs.AllLaws.{Working}
use Rattle.work.specs.Work.{line_of}
use Rattle.work.proofs.work_all.Given as goal

abbrev pub invariant-loop-i : goal.invariant-loop-i
invariant-loop-i l = Working l.line l.ms l.es (line_of l.initial.wv l.initial.wm l.initial.wk l.initial.ns 0) l.initial.ns l.wv l.wm l.wk l.ns l.m l.i
