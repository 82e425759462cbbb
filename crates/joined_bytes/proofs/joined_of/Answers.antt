use native.Mathlib.Omega.{arith}
use Rattle.numbers.proofs.Laws.Numbers.{next-below}
use Rattle.joined_bytes.proofs.Laws.Joined.{joining, placing-start, placing-more, placing-small}
use Rattle.joined_bytes.proofs.joined_of.Goals as goal

pub loop-places-init : goal.loop-places-init
loop-places-init c = placing-start _ _ _ _ c.parse_byte.ensures c.in_ok-first.was (omega arith) c.from-v.ensures

pub loop-places-preserved : goal.loop-places-preserved
loop-places-preserved c = placing-more c.loop-places.invariant c.loop-places-test.true c.next_byte.ensures c.in_ok-b.was c.from.ensures (cc) (omega arith)

pub returns : goal.returns
returns c = search joining

pub returns-in_err-first : goal.returns-in_err-first
returns-in_err-first c = search joining

pub returns-in_err-b : goal.returns-in_err-b
returns-in_err-b c = search joining

pub join_step-v-requires : goal.join_step-v-requires
join_step-v-requires c =
    let w = c.loop-places.invariant in
    (placing-small w, w.some, omega (arith, w.four, c.loop-places-test.true), omega (arith, next-below _ _ _ c.in_ok-b.was c.next_byte.ensures, c.from.ensures))
