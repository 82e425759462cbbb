-- What an H line tells: H N areas N global symbols, each space one or more blanks, blanks may trail, nothing else.
-- Assumes nothing.
use Rattle.std.specs.Prelude.{suc, ℕ, true, ◌&&◌, List, [], ◌∷◌, length, eqb}
use Rattle.std.proofs.Math.Option.{Option, none, some}
use Rattle.format.specs.Lists.{pick}
use Rattle.format.specs.Got.{Got, Reader, give, is, isnt, ◌>>=◌, ◌>>◌}
use Rattle.format.specs.Number.{blanks, number, space, word}
use Rattle.format.specs.Header.{Form}
use Rattle.format.specs.Entries.{Entry, area, field, ignored, lead, symbol}
use Rattle.format.specs.Outcome.{Outcome, fine, refused}
use Rattle.format.specs.Records.{Parsed, Taken, parsed}
use Rattle.laws.specs.Places.{line_at, records_at}

-- numbers of areas and of symbols
pub record Two : Type 0 where
  pub areas : ℕ
  pub symbols : ℕ

-- the fixed words of the line
pub data Word : Type 0 where
  H areas global symbols : Word

-- their bytes
abbrev pub letters : Word → List ℕ
letters H = 72 ∷ []
letters areas = 97 ∷ 114 ∷ 101 ∷ 97 ∷ 115 ∷ []
letters global = 103 ∷ 108 ∷ 111 ∷ 98 ∷ 97 ∷ 108 ∷ []
letters symbols = 115 ∷ 121 ∷ 109 ∷ 98 ∷ 111 ∷ 108 ∷ 115 ∷ []

-- the last word, and blanks
unfoldable pub last_word : Reader Unit
last_word = do
  word (letters symbols)
  blanks

-- global symbols, each behind blanks, and blanks
unfoldable pub symbol_words : Reader Unit
symbol_words = do
  space
  lead (letters global)
  last_word

-- N areas N global symbols
unfoldable pub two_numbers : ℕ → Reader Two
two_numbers radix = do
  n ← number radix
  m ← field (letters areas) radix
  symbol_words
  give (record { areas = n; symbols = m })

-- the line
unfoldable pub counts_line : ℕ → Reader Two
counts_line radix = do
  lead (letters H)
  two_numbers radix

-- what was read, if the line was used whole
abbrev pub whole_line : {A : Type 0} → ℕ → Got A → Option A
whole_line n (is a used) = pick (eqb used n) (some a) none
whole_line n (isnt r p) = none

-- what the bytes of a line tell
unfoldable pub tells : ℕ → List ℕ → Option Two
tells radix s = whole_line (length s) (counts_line radix s 0)

-- what the line at a place of the text tells
unfoldable pub tells_at : ℕ → List ℕ → ℕ → Option Two
tells_at radix text p = tells radix (line_at text p).bytes

-- the first that there is
abbrev pub or_later : {A : Type 0} → Option A → Option A → Option A
or_later (some a) later = some a
or_later none later = later

-- the first of the records of group one that tells; only H lines do
unfoldable pub first_told : ℕ → List ℕ → List (Taken Entry) → Option Two
first_told radix text [] = none
first_told radix text (e ∷ es) = or_later (tells_at radix text e.place) (first_told radix text es)

-- the same of the records of group one from a place of the text on
unfoldable pub told_from : Form → List ℕ → ℕ → Option Two
told_from f text p = first_told f.radix text (records_at true f text p).entries

-- one record more
abbrev pub add_one : Entry → Two → Two
add_one ignored n = n
add_one (area name size flags addr) n = record { areas = suc n.areas; symbols = n.symbols }
add_one (symbol name ref value) n = record { areas = n.areas; symbols = suc n.symbols }

-- how many A lines and S lines there are
unfoldable pub counted : List (Taken Entry) → Two
counted [] = record { areas = 0; symbols = 0 }
counted (e ∷ es) = add_one e.body (counted es)

-- what the H line says of the records
pub data Counted : Type 0 where
  equal not_equal not_told : Counted

abbrev pub compared : Option Two → Two → Counted
compared none n = not_told
compared (some t) n = pick (eqb t.areas n.areas && eqb t.symbols n.symbols) equal not_equal

unfoldable pub counts_in : List ℕ → Parsed → Counted
counts_in text p = compared (first_told p.form.radix text p.records.entries) (counted p.records.entries)

abbrev pub counts_from : List ℕ → Outcome Parsed → Counted
counts_from text (fine p) = counts_in text p
counts_from text (refused n place) = not_told

-- of the ended reading of a text
unfoldable pub told_counts : List ℕ → Counted
told_counts text = counts_from text (parsed true text)
