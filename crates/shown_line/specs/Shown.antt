-- The line at a place of a text, for a person: lines are counted by LF, as an editor does.
-- Assumes nothing.
use Rattle.std.specs.Prelude.{ℕ, suc, ◌+◌, ◌-◌, max, min, not, List, [], ◌∷◌, take, eqb, ltb}
use Rattle.format.specs.Lists.{pick}
use Rattle.format.specs.Bytes.{is_cr_or_lf}
use Rattle.format.specs.Number.{past}
use Rattle.shown_line.specs.declared.Window.{Window}

-- so many lines, and those that some bytes end
unfoldable pub lines_from : ℕ → List ℕ → ℕ
lines_from n [] = n
lines_from n (b ∷ bs) = lines_from (pick (eqb b 10) (suc n) n) bs

-- where a line begins, and where the line behind some bytes from a place on does
unfoldable pub start_from : (at start : ℕ) → List ℕ → ℕ
start_from at start [] = start
start_from at start (b ∷ bs) = start_from (suc at) (pick (eqb b 10) (suc at) start) bs

-- the line at a place, and at most 72 bytes of it, no more than 48 of them before the place
unfoldable pub window_of : List ℕ → ℕ → Window
window_of text place =
    let start = start_from 0 0 (take place text) in
    let end = past (λ b. not (is_cr_or_lf b)) text place in
    let from = max start (place - 48) in
    record { start = start; from = from; to = min (from + 72) end; end = end }

-- a tab as a blank, any other byte that is not printed as a question mark
unfoldable pub safe : ℕ → ℕ
safe b = pick (eqb b 9) 32 (pick (ltb b 32) 63 (pick (ltb 126 b) 63 b))
