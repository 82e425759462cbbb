-- A number's digits, and a number's bytes.
-- Assumes nothing.
use Rattle.std.specs.Prelude.{suc, zero, ℕ, ◌%◌, ◌+◌, ◌-◌, ◌/◌, List, [], ◌++◌, ◌∷◌, length, replicate, ltb}
use Rattle.format.specs.Lists.{pick}
use Rattle.manual.specs.Specifier.{H, L, Order}

-- the letter of a digit: 0 to 9, then capital A to F
unfoldable pub digit : ℕ → ℕ
digit d = pick (ltb d 10) (48 + d) (55 + d)

-- the digits of a number below 2^k, as few as there can be, and at least one where k is not 0
unfoldable pub fewest : ℕ → ℕ → ℕ → List ℕ
fewest base zero n = []
fewest base (suc k) n =
    let front = fewest base k (n / base) in
    pick (ltb n base) (digit n ∷ []) (front ++ digit (n % base) ∷ [])

-- the digits of a number below 2^32, with zeros in front up to a width
unfoldable pub digits_of : (base width n : ℕ) → List ℕ
digits_of base width n = let ds = fewest base 32 n in replicate (width - length ds) 48 ++ ds

-- a number's k bytes
unfoldable pub bytes_of : Order → ℕ → ℕ → List ℕ
bytes_of o zero n = []
bytes_of H (suc k) n = bytes_of H k (n / 256) ++ n % 256 ∷ []
bytes_of L (suc k) n = n % 256 ∷ bytes_of L k (n / 256)
