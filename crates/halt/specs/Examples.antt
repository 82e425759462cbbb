-- Each point of the rules with its smallest text: what the definitions give, and what the rules say.
-- Assumes nothing.
use Rattle.std.specs.Prelude.{ℕ, ◌≡◌, refl, List, [], ◌∷◌, map}
use Rattle.std.proofs.Math.Option.{Option, none, some}
use Rattle.format.specs.Text.{bytes_of}
use Rattle.halt.specs.Halt.{Halt, halt_of}
use Rattle.halt.specs.Evaluate.{evaluate_halt}

-- a text of which something is computed, and what is said of it
pub record Example : Type 0 where
  pub given : List ℕ
  pub said : List ℕ

-- 0, or the reason and the place
abbrev pub halted : Option Halt → List ℕ
halted none = 0 ∷ []
halted (some h) = h.reason ∷ h.place ∷ []

-- what stands behind a header line of four bytes, the reason, and the place in the text
abbrev halt : List ℕ → ℕ → ℕ → Example
halt rest r p = record { given = halted (halt_of (88 ∷ 72 ∷ 51 ∷ 10 ∷ rest)); said = r ∷ p ∷ [] }

pub table : List Example
unfolding evaluate_halt bytes_of
table =
    -- finished, no header
    record { given = halted (halt_of (bytes_of "XH3\nM x\n")); said = 0 ∷ [] }
    ∷ record { given = halted (halt_of (bytes_of "XH3")); said = 0 ∷ [] }
    -- a number that is missing, over 32 bits, over 255; 2 goes before 3
    ∷ halt (bytes_of "M x\nA x size G\n") 1 17
    ∷ halt (bytes_of "A x size 100000000\n") 2 13
    ∷ halt (bytes_of "T 00 100 00\nR 00 00 00 00\n") 3 9
    ∷ halt (bytes_of "T 00 00 100000000\nR 00 00 00 00\n") 2 12
    -- letters
    ∷ halt (bytes_of "Z\n") 4 4
    ∷ halt (bytes_of "\n") 4 4
    ∷ halt (bytes_of "M\n") 4 5
    ∷ halt (bytes_of "T x\nP x\nM x\n") 4 12
    ∷ halt (bytes_of "T x\nP x\nS a RefG\n") 4 12
    ∷ halt (bytes_of "S a RefG\n") 1 11
    -- a missing blank; a word that is cut, wrong, or has no blank behind it
    ∷ halt (bytes_of "A x size1\n") 4 12
    ∷ halt (bytes_of "A x siz 1\n") 4 8
    ∷ halt (bytes_of "S a Rex1\n") 4 8
    -- junk behind a number; a blank and junk
    ∷ halt (bytes_of "A x size 1 flags 0;\n") 4 22
    ∷ halt (bytes_of "A x size 1 flags 0 ;\n") 4 23
    ∷ halt (bytes_of "S a Ref0 ;\n") 4 13
    ∷ halt (bytes_of "T 00 00 00;\nR 00 00 00 00\n") 4 14
    ∷ halt (bytes_of "T 00 00 00 ;\nR 00 00 00 00\n") 1 15
    ∷ halt (bytes_of "T 00 00 00\nR 00 00 00 00;\n") 4 28
    ∷ halt (bytes_of "T 00 00 00\nR 00 00 00 00 ;\n") 1 29
    -- addr; a fragment; index 0; a mode with bit 11
    ∷ halt (bytes_of "A x size 1 flags 0 addr G\n") 1 28
    ∷ halt (bytes_of "A x size 1 flags 0 adr 0\n") 4 23
    ∷ halt (bytes_of "T 00 00 00\nR 00 00 00 00 02 100 00 00\n") 3 32
    ∷ halt (bytes_of "T 00 00 00\nR 00 01 00 00\n") 4 17
    ∷ halt (bytes_of "T 00 00 00\nR 00 00 00 00 F8 00 03 00 00\n") 4 29
    -- a line end that is missing
    ∷ halt (bytes_of "M x") 4 7
    ∷ halt (bytes_of "M x\ry\n") 4 7
    ∷ halt (bytes_of "A x size 1 flags 0 ") 4 23
    ∷ halt (bytes_of "T 00 00 00") 4 14
    ∷ halt (bytes_of "T 00 00 00 ") 1 15
    ∷ halt (bytes_of "T 00 00 00\nR 00 00 00 00") 4 28
    ∷ halt (bytes_of "T 00 00 00\nR 00 00 00 00 ") 1 29
    -- a T line with a P line that does not do, or with neither
    ∷ halt (bytes_of "T 00 G 00\nP x") 1 9
    ∷ halt (bytes_of "T 00 00 00\nP x") 4 15
    ∷ halt (bytes_of "T 00 00 00\nX\n") 4 15
    ∷ []

-- every example holds
pub examples : map (λ (e : Example). e.given) table ≡ map (λ (e : Example). e.said) table
unfolding table
examples = refl
