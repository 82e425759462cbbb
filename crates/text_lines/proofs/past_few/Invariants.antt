use Rattle.text_lines.specs.Lines.{OneLine}
use Rattle.text_lines.proofs.past_few.Given as goal

abbrev pub invariant-loop-j : goal.invariant-loop-j
invariant-loop-j l = OneLine l.t l.i l.j
