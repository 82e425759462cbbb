-- What an area's line says of its id and of its kind.
-- Assumes nothing.
use Rattle.std.specs.Prelude.{ℕ, ◌≡◌, List, [], ◌∷◌, ◌++◌}
use Rattle.std.proofs.Math.Option.{Option, some}
use Rattle.hexadecimal.specs.Hex.{hex_digits}
use Rattle.format.specs.Lists.{pick}
use Rattle.format.specs.Tables.{Area, absolute, base}
use Rattle.sink.specs.Sinks.{AddsDecimal}
use Rattle.sink.specs.declared.output.Sink.{Sink}

-- ` id `
abbrev pub id_word : List ℕ
id_word = 32 ∷ 105 ∷ 100 ∷ 32 ∷ []

-- ` absolute `
abbrev pub absolute_word : List ℕ
absolute_word = 32 ∷ 97 ∷ 98 ∷ 115 ∷ 111 ∷ 108 ∷ 117 ∷ 116 ∷ 101 ∷ 32 ∷ []

-- ` relocatable`
abbrev pub relocatable_word : List ℕ
relocatable_word = 32 ∷ 114 ∷ 101 ∷ 108 ∷ 111 ∷ 99 ∷ 97 ∷ 116 ∷ 97 ∷ 98 ∷ 108 ∷ 101 ∷ []

-- the kind of an area, and the base of an absolute one in eight digits
abbrev pub kind_text : Area → List ℕ
kind_text a = pick (absolute a) (absolute_word ++ hex_digits 8 (base a)) relocatable_word

-- the id of a kept area is added, in decimal; of an area that is not kept nothing is said, and nothing lists one
pub record AddsId (s : Sink) (out : List ℕ) (id : Option ℕ) (r : Sink) (after : List ℕ) : Type 0 where
  pub told : (k : ℕ) → id ≡ some k → AddsDecimal s out id_word k r after
