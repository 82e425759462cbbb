-- The target of a fixup, as ported; refusal 14. All sums and differences wrap at 64 bits, shift counts count modulo 64.
-- Assumes nothing.
use Rattle.std.specs.Prelude.{ℕ, ◌%◌, ◌*◌, ◌+◌, ◌-◌, ◌/◌, ◌^◌, Bool, not, ◌&&◌, List, drop, get_or, length, take, leb, ltb}
use Rattle.format.specs.Lists.{pick}
use Rattle.format.specs.Number.{join}
use Rattle.format.specs.Mode.{Addr11, Addr16, Addr19, Addr24, Byte, Class, Other, bit, class_of, on_site}
use Rattle.format.specs.Outcome.{Outcome, fine, refused}

-- a sum of 64 bits
unfoldable pub wrap_add : ℕ → ℕ → ℕ
wrap_add a b = (a + b) % 2 ^ 64

-- a difference of 64 bits, for b below 2^64
unfoldable pub wrap_sub : ℕ → ℕ → ℕ
wrap_sub a b = (a + (2 ^ 64 - b)) % 2 ^ 64

-- 2 shifted left, the count modulo 64
unfoldable pub two_shifted : ℕ → ℕ
two_shifted n = 2 * 2 ^ (n % 64) % 2 ^ 64

-- the number that the bytes on site hold
abbrev pub start_of : Class → Bool → List ℕ → ℕ
start_of Addr19 big bs = get_or bs 0 0 / 32 * 32 * 65536 + join big (take 2 (drop 1 bs))
start_of Addr11 big bs = get_or bs 0 0 / 32 * 32 * 256 + get_or bs 1 0
start_of Addr24 big bs = join big (take 3 bs)
start_of Addr16 big bs = join big (take 2 bs)
start_of Byte big bs = get_or bs 0 0
start_of Other big bs = 0

-- the sign bit of the start
abbrev pub high : Class → ℕ
high Addr19 = 23
high Addr11 = 10
high Addr24 = 23
high Addr16 = 15
high Byte = 7
high Other = 0

-- the tested bit of the number
abbrev pub number_bit : Class → Bool → ℕ
number_bit Addr19 three = 23
number_bit Addr11 three = 15
number_bit Addr24 three = 23
number_bit Addr16 three = 15
number_bit Byte three = 7
number_bit Other three = pick three 23 15

-- a start with its sign, if the mode is signed
unfoldable pub signed_start : Bool → ℕ → ℕ → ℕ
signed_start signed h t = pick (signed && bit h t) (wrap_sub t (2 * 2 ^ h)) t

-- as the source has it: 2 is shifted by the number itself
unfoldable pub signed_number : Bool → ℕ → ℕ → ℕ
signed_number signed h n = pick (signed && bit h n) (wrap_sub n (two_shifted n)) n

-- the low bits of t below 2^k, and of a five bits from there on
unfoldable pub block : ℕ → ℕ → ℕ → ℕ
block k t a = t % 2 ^ k + a / 2 ^ k % 32 * 2 ^ k

-- the low k bits of t, all others of the address
unfoldable pub near : ℕ → ℕ → ℕ → ℕ
near k t addr = t % 2 ^ k + addr / 2 ^ k * 2 ^ k

-- within the block of the next instruction, for the two short jumps
abbrev pub in_block : Class → ℕ → ℕ → ℕ
in_block Addr19 t addr = block 19 t (wrap_add addr 3)
in_block Addr11 t addr = block 11 t (wrap_add addr 2)
in_block Addr24 t addr = t
in_block Addr16 t addr = t
in_block Byte t addr = t
in_block Other t addr = t

-- how many low bits are the target's own
abbrev pub closing : Class → ℕ
closing Addr19 = 24
closing Addr11 = 16
closing Addr24 = 24
closing Addr16 = 16
closing Byte = 16
closing Other = 16

-- the target, where it is not refused
unfoldable pub target_of : Bool → ℕ → ℕ → List ℕ → ℕ → ℕ
target_of big m n bs addr =
    let c = class_of m in
    let signed = not (bit 4 m) in
    let t = wrap_sub (signed_start signed (high c) (start_of c big bs)) (signed_number signed (number_bit c (bit 8 m)) n) in
    let u = pick (bit 2 m) (wrap_sub t (wrap_add addr (pick (bit 0 m) 1 2))) (in_block c t addr) in
    near (closing c) u addr

-- 14, or the target
unfoldable pub target : Bool → ℕ → ℕ → List ℕ → ℕ → Outcome ℕ
target big m n bs addr =
    pick (ltb m 2048 && ltb n (2 ^ 24) && leb (on_site m) (length bs)) (fine (target_of big m n bs addr)) (refused 14 0)
