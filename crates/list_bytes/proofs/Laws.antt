-- A byte put into its place, and the last byte of a text.
-- Assumes nothing.
use Prim.Native.Nat.{ℕ, ◌+◌, ◌-◌, ◌<◌, ◌≤◌}
use mathlib.Core.Path.{◌≡◌, sym}
use mathlib.Core.List.{List}
use native.Mathlib.Omega.{arith}
use lib.ListN.{length, get_or, set}
use lib.Seq.{set_out}
use borrow.Author.Rules.{rules}
use borrow.Author.Tests.{eq-eqb, ne_eqb}
use Rattle.digits.specs.Capitals.{capitals}
use Rattle.list_bytes.specs.Last.{last_byte}

-- `put_byte`: a store past the room changes nothing
pub put-past : {A : Type 0} (l : List A) (i : ℕ) (b : A) → length l ≤ i → l ≡ set l i b
put-past l i b h = sym (set_out l i b h)

pub ruleset putting = (rules, put-past)

-- `last_byte`
module _ (radix : ℕ) (s : List ℕ) (p : ℕ) where
  pub last-radix : (radix ≡ 16 → ⊥) → 256 ≡ last_byte radix s p
  unfolding last_byte
  last-radix f = rw (ne_eqb radix 16 f)

  module _ (f : radix ≡ 16) where
    pub last-past : length s ≤ p → 256 ≡ last_byte radix s p
    unfolding last_byte
    last-past h = rw (eq-eqb radix 16 f, ne_eqb (length s) (p + 3) (λ q. omega arith))

    module _ (h : p < length s) where
      pub last-other : (length s - p ≡ 3 → ⊥) → 256 ≡ last_byte radix s p
      unfolding last_byte
      last-other k = rw (eq-eqb radix 16 f, ne_eqb (length s) (p + 3) (λ q. k (omega arith)))

      module _ (k : length s - p ≡ 3) where
        pub last-unspaced : (get_or s p 0 ≡ 32 → ⊥) → 256 ≡ last_byte radix s p
        unfolding last_byte
        last-unspaced e = rw (eq-eqb radix 16 f, eq-eqb (length s) (p + 3) (omega arith), ne_eqb (get_or s p 0) 32 e)

        pub last-is : {v : ℕ} → get_or s p 0 ≡ 32 → v ≡ capitals (get_or s (p + 1) 0) (get_or s (p + 2) 0) → v ≡ last_byte radix s p
        unfolding last_byte
        last-is e c = rw (eq-eqb radix 16 f, eq-eqb (length s) (p + 3) (omega arith), eq-eqb (get_or s p 0) 32 e) c

pub ruleset ending = (rules, last-radix, last-past, last-other, last-unspaced, last-is)
