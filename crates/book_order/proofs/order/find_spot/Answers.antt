use Rattle.book_order.proofs.Laws.{spots, spot-here, spot-past}
use Rattle.book_order.proofs.order.find_spot.Goals as goal

pub loop-i-init : goal.loop-i-init
loop-i-init c = search spots

pub wide-requires : goal.wide-requires
wide-requires c = search spots

pub loop-i-preserved : goal.loop-i-preserved
loop-i-preserved c = spot-past c.loop-i.invariant c.loop-i-test.true c.wide.ensures c.at-j.ensures c.given_name.ensures c.given_name-in-loop-i.ensures c.compare.result c.compare.ensures c.is_le.ensures c.if-is_le.false

pub returns-then-is_le : goal.returns-then-is_le
returns-then-is_le c = spot-here c.loop-i.invariant c.loop-i-test.true c.wide.ensures c.at-j.ensures c.given_name.ensures c.given_name-in-loop-i.ensures c.compare.result c.compare.ensures c.is_le.ensures c.if-is_le.true

pub returns : goal.returns
returns c = search spots
