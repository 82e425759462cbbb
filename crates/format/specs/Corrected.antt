-- The target of a fixup that agrees with the processor (request [1] of document 02), beside the ported one; refusal 14 as there.
-- Part one is what the MCS-51 manual says of jumps, for Addr11 and Byte; part two is the ticket's rule for the other classes, and the
-- target whole. All sums and differences wrap at 64 bits.
-- Assumes nothing.
use Rattle.std.specs.Prelude.{ℕ, ◌*◌, ◌+◌, ◌/◌, ◌^◌, ◌≡◌, refl, Bool, false, not, true, ◌&&◌, ◌||◌, List, [], map, ◌∷◌, drop, get_or, length, take, leb, ltb}
use Rattle.format.specs.Lists.{pick}
use Rattle.format.specs.Number.{horner, join, little}
use Rattle.format.specs.Mode.{Addr11, Addr16, Addr19, Addr24, Byte, Class, Other, bit, class_of, on_site}
use Rattle.format.specs.Outcome.{Outcome, fine, refused}
use Rattle.format.specs.Target.{block, closing, near, number_bit, signed_number, signed_start, target, target_of, two_shifted, wrap_add, wrap_sub}

-- ------------------------------------------------------------------ part one: what the MCS-51 manual says

-- ACALL and AJMP (Addr11): the three top bits of the opcode are address bits 10 to 8, and the second byte is bits 7 to 0
abbrev pub jump_address : List ℕ → ℕ
jump_address bs = get_or bs 0 0 / 32 * 256 + get_or bs 1 0

-- bits 15 to 11 are the next instruction's; the fixup stands at the opcode, two bytes before that
abbrev pub in_page : (t addr : ℕ) → ℕ
in_page t addr = block 11 t (wrap_add addr 2)

-- a relative jump (Byte): the displacement is one byte, signed at its top bit
abbrev pub displacement : List ℕ → ℕ
displacement bs = get_or bs 0 0

abbrev pub displacement_sign : ℕ
displacement_sign = 7

-- it is added to the address of the next instruction; the fixup stands at the displacement, one byte before that
abbrev pub behind_displacement : ℕ
behind_displacement = 1

-- ------------------------------------------------------------------ part two: the ticket's rule for the rest

-- the number that the bytes on site hold; the three top bits of Addr19's first byte are address bits 18 to 16
abbrev pub corrected_start : Class → Bool → List ℕ → ℕ
corrected_start Addr11 big bs = jump_address bs
corrected_start Byte big bs = displacement bs
corrected_start Addr19 big bs = get_or bs 0 0 / 32 * 65536 + join big (take 2 (drop 1 bs))
corrected_start Addr24 big bs = join big (take 3 bs)
corrected_start Addr16 big bs = join big (take 2 bs)
corrected_start Other big bs = 0

-- the sign bit of the start: its own top bit
abbrev pub corrected_high : Class → ℕ
corrected_high Addr11 = 10
corrected_high Byte = displacement_sign
corrected_high Addr19 = 18
corrected_high Addr24 = 23
corrected_high Addr16 = 15
corrected_high Other = 0

-- how far behind the fixup's address a relative target counts from; bit 0 is a byte's
abbrev pub behind : Class → (bit0 : Bool) → ℕ
behind Addr11 b = 2
behind Byte b = behind_displacement
behind Addr19 b = 2
behind Addr24 b = 2
behind Addr16 b = 2
behind Other b = pick b 1 2

-- within the block of the next instruction, for the two short jumps
abbrev pub corrected_block : Class → (t addr : ℕ) → ℕ
corrected_block Addr11 t addr = in_page t addr
corrected_block Byte t addr = t
corrected_block Addr19 t addr = block 19 t (wrap_add addr 3)
corrected_block Addr24 t addr = t
corrected_block Addr16 t addr = t
corrected_block Other t addr = t

-- the target, where it is not refused: start and number each with its sign at its own top bit where bit 4 is clear (`signed_start` takes off twice
-- that bit), the number taken off, what the address adds, and the bits above the low 16 or 24 from the address
unfoldable pub corrected_of : Bool → ℕ → ℕ → List ℕ → ℕ → ℕ
corrected_of big m n bs addr =
    let c = class_of m in
    let signed = not (bit 4 m) in
    let t = wrap_sub (signed_start signed (corrected_high c) (corrected_start c big bs)) (signed_start signed (number_bit c (bit 8 m)) n) in
    let u = pick (bit 2 m) (wrap_add t (wrap_add addr (behind c (bit 0 m)))) (corrected_block c t addr) in
    near (closing c) u addr

-- 14, or the target
unfoldable pub corrected : Bool → ℕ → ℕ → List ℕ → ℕ → Outcome ℕ
corrected big m n bs addr =
    pick (ltb m 2048 && ltb n (2 ^ 24) && leb (on_site m) (length bs)) (fine (corrected_of big m n bs addr)) (refused 14 0)

-- the ticket's words for every relative mode: address plus 1 with bit 0, and else plus 2
by_bits : (b₀ b₃ b₇ b₈ : Bool) → behind (pick b₀ (pick (b₃ || b₈) Other Byte) (pick b₃ (pick b₇ Addr19 Addr11) (pick b₇ Addr24 (pick b₈ Other Addr16)))) b₀ ≡ pick b₀ 1 2
by_bits true true b₇ b₈ = refl
by_bits true false b₇ true = refl
by_bits true false b₇ false = refl
by_bits false true true b₈ = refl
by_bits false true false b₈ = refl
by_bits false false true b₈ = refl
by_bits false false false true = refl
by_bits false false false false = refl

pub one-or-two-behind : (m : ℕ) → behind (class_of m) (bit 0 m) ≡ pick (bit 0 m) 1 2
unfolding class_of
one-or-two-behind m = by_bits (bit 0 m) (bit 3 m) (bit 7 m) (bit 8 m)

-- ------------------------------------------------------------------ examples

-- what is asked, and the ported and the corrected target
pub record Asked : Type 0 where
  pub given : List (Outcome ℕ)
  pub said : List (Outcome ℕ)

abbrev pub asked : Bool → (mode number : ℕ) → List ℕ → (address : ℕ) → Outcome ℕ → Outcome ℕ → Asked
asked big m n bs addr old new = record { given = target big m n bs addr ∷ corrected big m n bs addr ∷ []; said = old ∷ new ∷ [] }

pub corrected_table : List Asked
unfolding bit class_of on_site horner little join wrap_add wrap_sub two_shifted signed_start signed_number block near target_of target corrected_of corrected
corrected_table =
    -- E7: an ACALL
    asked true 0x08 0 (0x71 ∷ 0x23 ∷ []) 0x1000 (fine 0x1023) (fine 0x1323)
    -- E8: a relative jump, with number 0 and 80; and backwards
    ∷ asked true 0x05 0 (0x05 ∷ []) 0x10 (fine 0xFFF4) (fine 0x0016)
    ∷ asked true 0x05 0x80 (0x05 ∷ []) 0x10 (fine 0xFF76) (fine 0x0096)
    ∷ asked true 0x05 0 (0xFE ∷ []) 0x10 (fine 0xFFED) (fine 0x000F)
    -- E9 stays
    ∷ asked true 0x00 4 (0x12 ∷ 0x34 ∷ []) 0x25678 (fine 0x21230) (fine 0x21230)
    -- Addr19: address bits 18 to 16; the start's sign at 18, the number's at 23
    ∷ asked true 0x88 0 (0xE1 ∷ 0x23 ∷ 0x45 ∷ []) 0x12345 (fine 0x2345) (fine 0x72345)
    ∷ asked false 0x88 0x800001 (0x61 ∷ 0x23 ∷ 0x45 ∷ []) 0x12345 (fine 0x4526) (fine 0x34522)
    ∷ asked true 0x98 7 (0xE1 ∷ 0x23 ∷ 0x45 ∷ []) 0xFFFFFFFFFFFFFFFE (fine 0xFFFFFFFFFF00233E) (fine 0xFFFFFFFFFF07233E)
    ∷ asked true 0x8C 0 (0xE1 ∷ 0x23 ∷ 0x45 ∷ []) 0x12345 (fine 0xDEFFFE) (fine 0x468C)
    -- Addr11 with a signed number, at the end of a block
    ∷ asked true 0x08 0x8001 (0xF1 ∷ 0x23 ∷ []) 0x17FE (fine 0x1826) (fine 0x1F22)
    -- relative with bit 0 clear
    ∷ asked true 0x04 0x8000 (0x80 ∷ 0x01 ∷ []) 0x1234 (fine 0xEDCD) (fine 0x1237)
    -- Byte, unsigned
    ∷ asked true 0x15 0x81 (0xF0 ∷ []) 0x7FF0 (fine 0x807E) (fine 0x8060)
    -- Addr24, little; Other, plain and relative
    ∷ asked false 0x80 0xFFFFFF (0x01 ∷ 0x02 ∷ 0x83 ∷ []) 0xABCDEF0123 (fine 0xABCD830202) (fine 0xABCD830202)
    ∷ asked true 0x100 0 (0x09 ∷ []) 0x1234 (fine 0) (fine 0)
    ∷ asked true 0x104 0x8000 (0x09 ∷ []) 0xFFFF (fine 0x7FFF) (fine 0x8001)
    -- 14
    ∷ asked true 0x800 0 (0x12 ∷ 0x34 ∷ []) 0 (refused 14 0) (refused 14 0)
    ∷ asked true 0x00 0x1000000 (0x12 ∷ 0x34 ∷ []) 0 (refused 14 0) (refused 14 0)
    ∷ asked true 0x00 0 (0x12 ∷ []) 0 (refused 14 0) (refused 14 0)
    ∷ []

-- every example holds
pub corrected_examples : map (λ (e : Asked). e.given) corrected_table ≡ map (λ (e : Asked). e.said) corrected_table
unfolding corrected_table
corrected_examples = refl
