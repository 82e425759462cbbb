-- What the fast way of an empty pair finds: two lines that end at LF, of which the definition reads an address, an area and nothing more.
-- Assumes nothing.
use Rattle.std.specs.Prelude.{ℕ, ◌+◌, ◌<◌, ◌≤◌, ◌≡◌, Bool, true, List, [], ltb, length, get_or, take, drop, Option, Some, None}
use Rattle.format.specs.Got.{is}
use Rattle.format.specs.Header.{Form}
use Rattle.format.specs.Pairs.{address_part, area_part, whole_content, relocation_line}
use Rattle.text_lines.specs.Lines.{LineIs}
use Rattle.pair_line.specs.Usual.{Zeroed}
use Rattle.empty_pair.specs.declared.Empty.{Empty}

-- a form whose radix is 16 and whose addresses have three bytes
abbrev pub three : Bool → Form
three big = record { radix = 16; big = big; address_length = 3 }

-- none of the first n bytes is a control character
pub record Plain (s : List ℕ) (n : ℕ) : Type 0 where
  pub high : (i : ℕ) → i < n → 32 ≤ get_or s i 0

-- a T and three spaces in their places, where the answer is yes
pub record LeadsAddress (s : List ℕ) (r : Bool) : Type 0 where
  pub letter : r ≡ true → get_or s 0 0 ≡ 84
  pub space : r ≡ true → get_or s 1 0 ≡ 32
  pub second : r ≡ true → get_or s 4 0 ≡ 32
  pub third : r ≡ true → get_or s 7 0 ≡ 32

-- a T line that ends behind its address, where the answer is below 2^24
pub record AddressOnly (big : Bool) (s : List ℕ) (r : ℕ) : Type 0 where
  pub read : r < 16777216 → address_part (three big) s 0 ≡ is r 10
  pub plain : r < 16777216 → Plain s 10

-- R and index 0 with one space behind them, where the answer is yes
pub record LeadsArea (s : List ℕ) (r : Bool) : Type 0 where
  pub read : r ≡ true → Zeroed 16 s (ltb 32 (get_or s 8 0))
  pub plain : r ≡ true → Plain s 8

-- an R line that ends behind its area's index, where the answer is below 65,536
pub record AreaOnly (big : Bool) (s : List ℕ) (r : ℕ) : Type 0 where
  pub read : r < 65536 → area_part (three big) s 0 ≡ is r 13
  pub plain : r < 65536 → Plain s 13

-- an empty pair at a place: ten bytes and LF, thirteen bytes and LF
pub record EmptyAt (f : Form) (s : List ℕ) (p address area : ℕ) : Type 0 where
  pub first : LineIs s p (record { end = p + 10; ends = 1; next = p + 11 })
  pub second : LineIs s (p + 11) (record { end = p + 24; ends = 1; next = p + 25 })
  pub inside : p + 25 ≤ length s
  pub content : whole_content f (take 10 (drop p s)) ≡ is (record { address = address; bytes = [] }) 10
  pub relocation : relocation_line f (take 13 (drop (p + 11) s)) 0 ≡ is (record { area = area; fragments = [] }) 13

abbrev pub EmptySays : Form → List ℕ → ℕ → Option Empty → Type 0
EmptySays f s p (Some e) = EmptyAt f s p e.address e.area
EmptySays f s p None = Unit {0}

pub record EmptyPair (f : Form) (s : List ℕ) (p : ℕ) (r : Option Empty) : Type 0 where
  pub says : EmptySays f s p r
