-- A bit of a mode, and how far behind the address a relative target counts.
-- Assumes nothing.
use Rattle.std.proofs.Common.{◌≡◌, ℕ, ◌/◌, ◌^◌, ◌<◌, ◌≤◌, Bool, true, false, sym, arith, lit<, rules}
use native.Mathlib.Nat.{div-eq_of_lt, pow-le-pow_right}
use lib.Dec.{ltb}
use borrow.Author.Tests.{le-ltb}
use Rattle.format.specs.Lists.{pick}
use Rattle.format.specs.Mode.{bit}

-- a bit above all bits
above : (x w k : ℕ) → x < 2 ^ w → w ≤ k → x / 2 ^ k ≡ 0
above x w k h l = div-eq_of_lt (omega (arith, pow-le-pow_right {n = 2} (lit< tt) l))

pub no-bit : (x w k : ℕ) → x < 2 ^ w → w ≤ k → bit k x ≡ false
unfolding bit
no-bit x w k h l = rw (above x w k h l)

pub no-mode-bit : (m k : ℕ) → m < 2 ^ 32 → 32 ≤ k → ltb k 32 ≡ bit k m
no-mode-bit m k h l = rw (le-ltb k 32 l) (sym (no-bit m 32 k h l))

-- how far behind
pub back_one : (m : ℕ) {b : Bool} → b ≡ bit 0 m → b ≡ true → ◌≡◌ {A = ℕ} 1 (pick (bit 0 m) 1 2)
back_one m e f = rw (← e, f)

pub back-two : (m : ℕ) {b : Bool} → b ≡ bit 0 m → b ≡ false → ◌≡◌ {A = ℕ} 2 (pick (bit 0 m) 1 2)
back-two m e f = rw (← e, f)

pub ruleset reading = (rules, no-mode-bit, back_one, back-two)
