-- A number's digits written out read back as that number.
-- Assumes nothing.
use Prim.Native.Nat.{ℕ, ◌+◌, ◌<◌, ◌^◌, ◌≤◌}
use native.Mathlib.Omega.{arith}
use lib.ListN.{length}
use borrow.Author.Tests.{lt-ltb, ne_eqb}
use Rattle.format.specs.Bytes.{is_digit}
use Rattle.format.specs.Number.{byte, digits, number}
use Rattle.manual.specs.Specifier.{D, Q, Radix, X, base}
use Rattle.manual.specs.Digits.{digits_of}
use Rattle.manual.specs.Takes.{Takes}
use Rattle.manual.proofs.Digits.{digits-are-digits, digits_value, some-digit}
use Rattle.manual.proofs.Takes.{past-takes, run-takes}

pub low-base : (r : Radix) → 2 ≤ base r
low-base X = omega arith
low-base D = omega arith
low-base Q = omega arith

pub high-base : (r : Radix) → base r ≤ 16
high-base X = omega arith
high-base D = omega arith
high-base Q = omega arith

-- in hexadecimal, decimal and octal, with any number of zeros in front up to a width, at any place, with no digit behind: the number itself
pub a-written-number-reads-back : (r : Radix) (at width n : ℕ) → n < 2 ^ 32 → Takes (number (base r)) at (digits_of (base r) width n) n (is_digit (base r))
unfolding number digits
a-written-number-reads-back r at width n i = record {
  takes = λ s rest d h.
      let ds = digits_of (base r) width n in
      let a = digits-are-digits (base r) width n (low-base r) (high-base r) in
      let l = some-digit (base r) width n (low-base r) (high-base r) in
      rw (
        past-takes (is_digit (base r)) s at ds rest a d h,
        d,
        run-takes (is_digit (base r)) ds rest a h,
        digits_value (base r) width n (low-base r) (high-base r) i,
        ne_eqb (at + length ds) at (λ e. omega arith),
        lt-ltb n 4294967296 i,
      );
}

-- the same of a number below 256 and the reader of bytes
pub a-written-byte-reads-back : (r : Radix) (at width n : ℕ) → n < 256 → Takes (byte (base r)) at (digits_of (base r) width n) n (is_digit (base r))
unfolding byte
a-written-byte-reads-back r at width n i = record {
  takes = λ s rest d h.
      rw ((a-written-number-reads-back r at width n (omega arith)).takes s rest d h, lt-ltb n 256 i);
}
