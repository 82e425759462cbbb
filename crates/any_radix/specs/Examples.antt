-- Headers of each radix, with a line that is not ended behind them: it is not counted, and 3 and 4 are given as before.
-- Assumes nothing.
use Rattle.std.specs.Prelude.{ℕ, ◌≡◌, refl, List, [], map, ◌++◌, ◌∷◌}
use Rattle.format.specs.Text.{bytes_of}
use Rattle.format.specs.Evaluate.{evaluate}
use Rattle.format.specs.Records.{finished, stopped}
use Rattle.format.specs.Reading.{Answer, accepted, refusal}
use Rattle.record_rows.specs.ReadPairs.{roomy}
use Rattle.any_radix.specs.ReadAny.{read_any, reading_any}

pub record Example : Type 0 where
  pub text : List ℕ
  pub answer : Answer

-- one symbol's line is ended, the next is not
abbrev behind : List ℕ → List ℕ
behind header = header ++ bytes_of "\nS a Ref1\nS b Ref1"

abbrev one : Answer
one = accepted (record { areas = 0; symbols = 1; lines = 0; kept = 0; positions = 0; fixups = 0 }) (stopped 13)

abbrev pub examples : List Example
examples =
    record { text = behind (bytes_of "QH3"); answer = one }
    ∷ record { text = behind (bytes_of "DL2"); answer = one }
    ∷ record { text = behind (bytes_of "XH3"); answer = one }
    ∷ record { text = bytes_of "DL2\n"; answer = accepted (record { areas = 0; symbols = 0; lines = 0; kept = 0; positions = 0; fixups = 0 }) finished }
    ∷ record { text = bytes_of "QH3"; answer = refusal 4 0 }
    ∷ record { text = 81 ∷ 72 ∷ 51 ∷ 10 ∷ 200 ∷ []; answer = refusal 3 4 }
    ∷ []

pub as-shown : map (λ e. (reading_any roomy e.text).answer) examples ≡ map (λ e. e.answer) examples
unfolding evaluate bytes_of read_any reading_any
as-shown = refl
