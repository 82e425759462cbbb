-- No second answer fits a contract: what an answer tells is told by no other.
-- Assumes nothing.
use Prim.Native.Nat.{ℕ}
use mathlib.Core.Path.{◌≡◌, refl}
use native.Mathlib.Omega.{arith}
use Rattle.std.specs.Prelude.{Option, Some, None}
use Rattle.counts_of.specs.Told.{told_counted, told_end}
use Rattle.counts_of.specs.declared.Counted.{Counted}
use Rattle.counts_of.specs.declared.Counted.TheVariants.{Equal, NotEqual, NotTold}

-- `entry_end`
pub one_end : (a b : Option ℕ) → told_end a ≡ told_end b → a ≡ b
one_end (Some n) (Some m) e = let p : n ≡ m = cc in rw p
one_end (Some n) None e = absurd (let z : ◌≡◌ {A = ℕ} 0 1 = cc in omega arith)
one_end None (Some m) e = absurd (let z : ◌≡◌ {A = ℕ} 0 1 = cc in omega arith)
one_end None None e = refl

-- `told_counts`
pub one-counted : (a b : Counted) → told_counted a ≡ told_counted b → a ≡ b
one-counted Equal Equal e = refl
one-counted Equal NotEqual e = absurd (let z : ◌≡◌ {A = ℕ} 0 1 = cc in omega arith)
one-counted Equal NotTold e = absurd (let z : ◌≡◌ {A = ℕ} 0 1 = cc in omega arith)
one-counted NotEqual Equal e = absurd (let z : ◌≡◌ {A = ℕ} 0 1 = cc in omega arith)
one-counted NotEqual NotEqual e = refl
one-counted NotEqual NotTold e = absurd (let z : ◌≡◌ {A = ℕ} 0 1 = cc in omega arith)
one-counted NotTold Equal e = absurd (let z : ◌≡◌ {A = ℕ} 0 1 = cc in omega arith)
one-counted NotTold NotEqual e = absurd (let z : ◌≡◌ {A = ℕ} 0 1 = cc in omega arith)
one-counted NotTold NotTold e = refl
