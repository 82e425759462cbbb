-- What the proofs of a stored byte share, and a count that goes on by what is answered.
-- Assumes nothing.
use Prim.Native.Nat.{ℕ, ◌+◌, ◌-◌, ◌*◌, ◌≤◌, ◌<◌}
use mathlib.Core.Path.{◌≡◌, refl, sym}
use mathlib.Core.List.{List}
use native.Mathlib.Omega.{arith}
use lib.Count.{ones, ones-le}
use lib.ListN.{length, get_or, set}
use lib.Seq.{set_out}
use borrow.Author.Rules.{rules}
use Rattle.laws.proofs.Known.{a-mask-moves-the-sum}
use Rattle.image_byte.specs.Count.{Counted, Marked}

-- nothing written
pub counted_none : (count : ℕ) (ms : List ℕ) → Counted 0 count ms count ms
counted_none count ms = record { moves = refl; low = omega arith; high = omega arith }

-- one entry more
pub counted-more : {n count : ℕ} {ms os os' : List ℕ} {k r : ℕ} → Counted n count ms k os → Counted 1 k os r os' → Counted (n + 1) count ms r os'
counted-more v w = record { moves = omega (arith, v.moves, w.moves); low = omega (arith, v.low, w.low); high = omega (arith, v.high, w.high) }

-- an entry that writes nothing
pub counted-idle : (count : ℕ) (ms : List ℕ) → Counted 1 count ms count ms
counted-idle count ms = record { moves = refl; low = omega arith; high = omega arith }

-- what is answered, taken on to a count
pub marked-on : {to m : ℕ} {ms : List ℕ} {x : ℕ} {ms' : List ℕ} (count : ℕ) → 8 ≤ count → Marked to m 8 ms x ms' → Marked to m count ms ((count + x) - 8) ms'
marked-on count h d = let w = d.counted in record {
  stored = d.stored;
  counted = record { moves = omega (arith, w.moves); low = omega arith; high = omega (arith, w.high) };
}

-- `put_mask`
pub mark-past : (ms : List ℕ) (to m count : ℕ) → length ms ≤ to → Marked to m count ms count ms
mark-past ms to m count h = record { stored = sym (set_out ms to m h); counted = counted-idle count ms }

pub mark-stored : (ms : List ℕ) (to m count : ℕ) → to < length ms → 8 ≤ count → {a b : ℕ} → a ≡ ones m → a ≤ 8 → b ≡ ones (get_or ms to 0) → b ≤ 8
    → Marked to m count ms ((count + a) - b) (set ms to m)
mark-stored ms to m count h l p y q z =
    let x = a-mask-moves-the-sum ms to m h in
    record { stored = refl; counted = record { moves = omega (arith, x); low = omega arith; high = omega arith } }

pub ones_small : (m : ℕ) → m < 256 → {r : ℕ} → r ≡ ones m → (r ≡ ones m) × (r ≤ 8)
ones_small m h e = (e, omega (arith, ones-le 8 m h))

pub ruleset counting = (rules, ones_small, mark-past, mark-stored)
