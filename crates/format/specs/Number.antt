-- The small readers: blanks, words, names, numbers of a radix, bytes, and bytes joined into one number.
-- Assumes nothing.
use Rattle.std.specs.Prelude.{suc, zero, ℕ, ◌*◌, ◌+◌, ◌-◌, Bool, false, true, List, [], map, ◌∷◌, drop, length, eqb, ltb}
use Rattle.format.specs.Lists.{pick, run, starts}
use Rattle.format.specs.Bytes.{is_blank, is_digit, is_name_byte, worth}
use Rattle.format.specs.Got.{Got, Reader, give, is, isnt, then, ◌>>=◌, ◌>>◌}

-- the place behind the run of bytes that pass the test
unfoldable pub past : (ℕ → Bool) → List ℕ → ℕ → ℕ
past p s at = at + length (run p (drop at s))

-- what was read up to a place, or reason 4 if that is no further
abbrev pub up_to : {A : Type 0} → (at next : ℕ) → A → Got A
up_to at next a = pick (eqb next at) (isnt 4 at) (is a next)

-- any blanks
unfoldable pub blanks : Reader Unit
blanks s at = is tt (past is_blank s at)

-- one or more blanks
unfoldable pub space : Reader Unit
space s at = up_to at (past is_blank s at) tt

-- the place behind a fixed word, or the same place where it does not stand there
unfoldable pub behind : List ℕ → List ℕ → ℕ → ℕ
behind w s at = pick (starts w (drop at s)) (at + length w) at

-- a fixed word, of one byte or more
unfoldable pub word : List ℕ → Reader Unit
word w s at = up_to at (behind w s at) tt

-- where a name stands
pub record Name : Type 0 where
  pub at : ℕ
  pub length : ℕ

-- one or more bytes of a name
unfoldable pub name : Reader Name
name s at = let next = past is_name_byte s at in up_to at next (record { at = at; length = next - at })

-- the value of digits to a base, behind what is there already
unfoldable pub horner : ℕ → ℕ → List ℕ → ℕ
horner base v [] = v
horner base v (d ∷ ds) = horner base (v * base + d) ds

-- the value of the longest run of digits
unfoldable pub digits : ℕ → List ℕ → ℕ → ℕ
digits radix s at = horner radix 0 (map worth (run (is_digit radix) (drop at s)))

-- digits from a place to a place, as a number below 2^32
abbrev pub valued : (at next v : ℕ) → Got ℕ
valued at next v = pick (eqb next at) (isnt 1 at) (pick (ltb v 4294967296) (is v next) (isnt 2 at))

-- a number below 2^32 of a radix: the longest run of one or more digits
unfoldable pub number : ℕ → Reader ℕ
number radix s at = valued at (past (is_digit radix) s at) (digits radix s at)

-- a number below 256
unfoldable pub byte : ℕ → Reader ℕ
byte radix s at = then (number radix s at) (λ v next. pick (ltb v 256) (is v next) (isnt 3 at))

-- one or more blanks and a byte
unfoldable pub next_byte : ℕ → Reader ℕ
next_byte radix s at = then (space s at) (λ u next. byte radix s next)

-- n more bytes, each behind blanks
unfoldable pub more_bytes : ℕ → ℕ → Reader (List ℕ)
more_bytes radix zero = give []
more_bytes radix (suc n) = do
  b ← next_byte radix
  bs ← more_bytes radix n
  give (b ∷ bs)

-- n + 1 bytes, separated by blanks
unfoldable pub bytes : ℕ → ℕ → Reader (List ℕ)
bytes radix n = do
  b ← byte radix
  bs ← more_bytes radix n
  give (b ∷ bs)

-- the value of bytes of which the first is the lowest
unfoldable pub little : List ℕ → ℕ
little [] = 0
little (b ∷ bs) = b + 256 * little bs

-- bytes joined into one number: the first is the highest if big, else the last
unfoldable pub join : Bool → List ℕ → ℕ
join true bs = horner 256 0 bs
join false bs = little bs

-- n + 1 bytes as one number
unfoldable pub joined : ℕ → Bool → ℕ → Reader ℕ
joined radix big n = do
  bs ← bytes radix n
  give (join big bs)
