use native.Mathlib.Omega.{arith}
use Rattle.joining.proofs.JoinLaws.{joining, joins-one-more}
use Rattle.joining.proofs.join.endian_to_number.Goals as goal

pub loop-i-preserved : goal.loop-i-preserved
loop-i-preserved c = joins-one-more c.loop-i.invariant c.loop-i-test.true (cc) c.from.ensures (omega (arith, (c.type_inv.part c.place-at.result).fits))

pub returns : goal.returns
returns c = search joining
