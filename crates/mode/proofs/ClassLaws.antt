-- The class of a mode: a number names its class, and the table has the number of each mode.
-- Assumes nothing.
use Prim.Native.Nat.{ℕ, ◌%◌, ◌/◌}
use mathlib.Core.Path.{◌≡◌, refl, ap, ◌∙◌}
use native.Mathlib.Omega.{arith}
use lib.ListN.{get_or}
use Rattle.format.specs.Mode.{Addr11, Addr16, Addr19, Addr24, Byte, Class, Other, bit, class_number, class_number_of, class_of}
use Rattle.laws.proofs.Fill.{entry}
use Rattle.mode.specs.Class.{class_named, class_table}

-- each class is named by its number
names-itself : (c : Class) → class_named (class_number c) ≡ c
unfolding class_named
names-itself Addr19 = refl
names-itself Addr11 = refl
names-itself Addr24 = refl
names-itself Addr16 = refl
names-itself Byte = refl
names-itself Other = refl

-- four bits decide, all of them below 2 ^ 11
bit0 : (m : ℕ) → bit 0 (m % 2048) ≡ bit 0 m
unfolding bit
bit0 m = let e : m % 2048 / 1 % 2 ≡ m / 1 % 2 = omega arith in rw e

bit3 : (m : ℕ) → bit 3 (m % 2048) ≡ bit 3 m
unfolding bit
bit3 m = let e : m % 2048 / 8 % 2 ≡ m / 8 % 2 = omega arith in rw e

bit7 : (m : ℕ) → bit 7 (m % 2048) ≡ bit 7 m
unfolding bit
bit7 m = let e : m % 2048 / 128 % 2 ≡ m / 128 % 2 = omega arith in rw e

bit8 : (m : ℕ) → bit 8 (m % 2048) ≡ bit 8 m
unfolding bit
bit8 m = let e : m % 2048 / 256 % 2 ≡ m / 256 % 2 = omega arith in rw e

class-of-low-bits : (m : ℕ) → class_of (m % 2048) ≡ class_of m
unfolding class_of
class-of-low-bits m = rw (bit0 m, bit3 m, bit7 m, bit8 m)

-- the table names each mode's class
pub table-names : (m : ℕ) → class_named (get_or class_table (m % 2048) 0) ≡ class_of m
unfolding class_table class_number_of
table-names m = ap class_named (entry class_number_of 2048 (m % 2048) (omega arith)) ∙ (names-itself (class_of (m % 2048)) ∙ class-of-low-bits m)
