use Rattle.modes.proofs.Laws.{moding, mode-2, mode-3}
use Rattle.modes.proofs.any_mode.Goals as goal

pub returns-in_err-high : goal.returns-in_err-high
returns-in_err-high c = search moding

pub returns-then-high-lt240 : goal.returns-then-high-lt240
returns-then-high-lt240 c = mode-2 _ _ _ c.parse_byte.ensures c.in_ok-high.was c.if-high-lt240.true

pub returns-in_err-low : goal.returns-in_err-low
returns-in_err-low c =
    let e = mode-3 _ _ _ c.parse_byte.ensures c.in_ok-high.was c.if-high-lt240.false c.next_byte.ensures c.in_err-low.was in
    search moding

pub overflow_cast-high : goal.overflow_cast-high
overflow_cast-high c = search moding

pub overflow_cast-low : goal.overflow_cast-low
overflow_cast-low c = search moding

pub returns : goal.returns
returns c = search moding
