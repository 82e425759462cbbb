-- The lines of a text. A line is the bytes before the first CR or LF, and the full line end behind them: 1 byte for LF, 2 for CR LF.
-- Assumes nothing.
use Rattle.std.specs.Prelude.{ℕ, ◌+◌, Bool, not, ◌&&◌, List, [], ◌++◌, ◌∷◌, drop, length, eqb}
use Rattle.format.specs.Lists.{pick, run}
use Rattle.format.specs.Bytes.{is_cr_or_lf}

-- its bytes, none of them CR or LF, and the length of its full line end
pub record Line : Type 0 where
  pub bytes : List ℕ
  pub ends : ℕ

-- how many bytes of the text a line takes
unfoldable pub width : Line → ℕ
width l = length l.bytes + l.ends

-- one more byte in front of the first line
unfoldable pub grow : ℕ → List Line → List Line
grow b [] = []
grow b (l ∷ ls) = record { bytes = b ∷ l.bytes; ends = l.ends } ∷ ls

-- an empty line in front
unfoldable pub blank_line : ℕ → List Line → List Line
blank_line e ls = record { bytes = []; ends = e } ∷ ls

-- the lines that have a full line end. A CR without its LF ends the last of them.
unfoldable pub lines : List ℕ → List Line
lines [] = []
lines (b ∷ []) = pick (eqb b 10) (blank_line 1 []) []
lines (b ∷ c ∷ bs) =
    let rest = lines (c ∷ bs) in
    let behind = lines bs in
    pick (eqb b 10) (blank_line 1 rest)
    (pick (eqb b 13) (pick (eqb c 10) (blank_line 2 behind) [])
    (grow b rest))

-- the bytes that the lines take
unfoldable pub taken : List Line → ℕ
taken [] = 0
taken (l ∷ ls) = width l + taken ls

-- what stands behind the last full line end, as a line without one
unfoldable pub last_line_of : List ℕ → Line
last_line_of text = record { bytes = run (λ b. not (is_cr_or_lf b)) (drop (taken (lines text)) text); ends = 0 }

-- the lines that a reading goes through
unfoldable pub lines_of : Bool → List ℕ → List Line
lines_of ended text = pick ended (lines text) (lines text ++ last_line_of text ∷ [])

-- the length of the full line end that stands first: 1 for LF, 2 for CR LF, 0 where there is none
unfoldable pub end_length : List ℕ → ℕ
end_length [] = 0
end_length (a ∷ []) = pick (eqb a 10) 1 0
end_length (a ∷ b ∷ r) = pick (eqb a 10) 1 (pick (eqb a 13 && eqb b 10) 2 0)
