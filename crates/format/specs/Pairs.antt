-- Group two: a T line followed at once by an R line, or else by a P line. Each reader gets the bytes of its line, no CR or LF among them.
-- Assumes nothing.
use Rattle.std.specs.Prelude.{ℕ, ◌%◌, ◌*◌, ◌+◌, ◌-◌, Bool, List, length, eqb, ltb}
use Rattle.format.specs.Lists.{pick}
use Rattle.format.specs.Bytes.{is_blank}
use Rattle.format.specs.Got.{Got, Reader, give, is, isnt, many, only, or_else, shifted, then, ◌>>=◌, ◌>>◌}
use Rattle.format.specs.Number.{byte, joined, next_byte, past, space}
use Rattle.format.specs.Lines.{Line, width}
use Rattle.format.specs.Header.{Form}
use Rattle.format.specs.Entries.{R, T, lead, letter_and_more, spelled}

-- one relocation: its mode, the entry of the line that it begins at, and the index of an area or a symbol
pub record Fragment : Type 0 where
  pub mode : ℕ
  pub entry : ℕ
  pub index : ℕ

-- what a T line holds
pub record Content : Type 0 where
  pub address : ℕ
  pub bytes : List ℕ

-- what an R line holds
pub record Relocation : Type 0 where
  pub area : ℕ
  pub fragments : List Fragment

-- what a pair of lines of group two is
pub data Pair : Type 0 where
  skipped : Pair
  placed : Content → Relocation → Pair

-- a byte of a list
abbrev pub listed : Form → Reader ℕ
listed f = next_byte f.radix

-- T, and the address
unfoldable pub address_part : Form → Reader ℕ
address_part f = do
  lead (spelled T)
  joined f.radix f.big (f.address_length - 1)

-- behind the address: the content
abbrev pub content_from : Form → List ℕ → ℕ → ℕ → Got Content
content_from f s a next =
    let m = many (length s) (listed f) s next in
    is (record { address = a; bytes = m.items }) m.end

-- T, the address, the content
unfoldable pub content_line : Form → Reader Content
content_line f s at = then (address_part f s at) (λ a next. content_from f s a next)

-- an index is two bytes
unfoldable pub index : ℕ → Bool → Reader ℕ
index radix big = joined radix big 1

-- an index behind blanks
unfoldable pub next_index : ℕ → Bool → Reader ℕ
next_index radix big = do
  space
  index radix big

-- a mode: one byte below F0; or two, read big and reduced to the low 12 bits, of which bit 11 has to be clear
unfoldable pub long_mode : ℕ → ℕ → Reader ℕ
long_mode radix b = do
  c ← next_byte radix
  give ((b * 256 + c) % 4096)

-- the same before bit 11 is looked at
unfoldable pub any_mode : ℕ → Reader ℕ
any_mode radix s at = then (byte radix s at) (λ b next. pick (ltb b 240) (is b next) (long_mode radix b s next))

-- a mode of 11 bits
unfoldable pub mode_of : ℕ → Reader ℕ
mode_of radix = only (any_mode radix) (λ m. ltb m 2048)

-- mode, entry, index, behind blanks
unfoldable pub fragment : ℕ → Bool → Reader Fragment
fragment radix big = do
  space
  m ← mode_of radix
  e ← next_byte radix
  i ← next_index radix big
  give (record { mode = m; entry = e; index = i })

-- an index that is 0
unfoldable pub zero_index : ℕ → Bool → Reader ℕ
zero_index radix big = only (index radix big) (λ i. eqb i 0)

-- R, index 0, the area's index
unfoldable pub area_part : Form → Reader ℕ
area_part f = do
  lead (spelled R)
  zero_index f.radix f.big
  next_index f.radix f.big

-- behind the area's index: the fragments, and blanks
abbrev pub relocation_from : Form → List ℕ → ℕ → ℕ → Got Relocation
relocation_from f s a next =
    let m = many (length s) (fragment f.radix f.big) s next in
    is (record { area = a; fragments = m.items }) (past is_blank s m.end)

-- R, index 0, the area's index, the fragments
unfoldable pub relocation_line : Form → Reader Relocation
relocation_line f s at = then (area_part f s at) (λ a next. relocation_from f s a next)

-- the T line has to be used whole; where it is not, the next listed byte says why
unfoldable pub whole_content : Form → List ℕ → Got Content
whole_content f s = then (content_line f s 0) (λ c used. pick (eqb used (length s)) (is c used) (then (listed f s used) (λ b next. isnt 4 used)))

-- a T line and an R line; places count from the T, whose width is w
unfoldable pub placed_of : Form → ℕ → List ℕ → List ℕ → Got Pair
placed_of f w s r = then (whole_content f s) (λ c used. shifted w (placed c) (relocation_line f r 0))

-- a T line and a P line, each with at least one more byte
unfoldable pub skipped_of : ℕ → List ℕ → List ℕ → Got Pair
skipped_of w s p = then (letter_and_more (λ b. eqb b 84) skipped s 0) (λ q used. shifted w (λ b. b) (letter_and_more (λ b. eqb b 80) skipped p 0))

-- the relocated form, and failing that the ignored one
unfoldable pub pair_of : Form → ℕ → List ℕ → List ℕ → Got Pair
pair_of f w s r = or_else (placed_of f w s r) (skipped_of w s r)

-- a pair of lines
unfoldable pub pair_lines : Form → Line → Line → Got Pair
pair_lines f t r = pair_of f (width t) t.bytes r.bytes
