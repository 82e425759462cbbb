-- What the proofs of the search for a home cite: its invariant, and a law for each return.
-- Assumes nothing.
use Prim.Native.Nat.{ℕ, suc, ◌+◌, ◌-◌, ◌≤◌, ◌<◌}
use mathlib.Core.Path.{◌≡◌, ap, sym, ◌∙◌}
use mathlib.Core.Bool.{Bool, true, false}
use mathlib.Core.List.{List}
use native.Mathlib.Numerals.{add-one}
use native.Mathlib.Omega.{arith}
use lib.Dec.{eqb}
use borrow.Author.Rules.{rules}
use borrow.Author.Tests.{lt-ltb, le-ltb}
use Rattle.format.specs.Lists.{pick}
use Rattle.homes.specs.declared.Home.{Home}
use Rattle.homes.specs.Home.{home_at}
use Rattle.position_home.specs.Homed.{home_for, home_from}

-- `home_with`: none of the areas before the i-th has the id
pub record Homing (areas : List ℕ) (n id i : ℕ) : Type 0 where
  pub within : i ≤ n
  pub rest : home_from areas n id 0 n ≡ home_from areas n id i (n - i)

pub home-start : (areas : List ℕ) (n id : ℕ) → Homing areas n id 0
home-start areas n id = record { within = omega arith; rest = let z : n - 0 ≡ n = omega arith in rw z }

module _ {areas : List ℕ} {n id i : ℕ} (w : Homing areas n id i) where
  pub home-end : n ≤ i → record { area = 0; id = 0; start = 0; size = 0 } ≡ home_from areas n id 0 n
  unfolding home_from
  home-end h = let z : n - i ≡ 0 = omega arith in sym (w.rest ∙ rw z)

  module _ (l : i < n) {h : Home} (e : h ≡ home_at areas n i) {b : Bool} (eb : b ≡ eqb h.id (suc id)) where
    ahead : home_from areas n id 0 n ≡ pick b h (home_from areas n id (suc i) (n - suc i))
    unfolding home_from
    ahead = let z : n - i ≡ suc (n - suc i) = omega arith in w.rest ∙ (ap (λ (k : ℕ). home_from areas n id i k) z ∙ rw (eb, e))

    pub home_here : b ≡ true → h ≡ home_from areas n id 0 n
    home_here f = sym (rw f at ahead)

    pub home-on : b ≡ false → Homing areas n id (i + 1)
    home-on f = record { within = omega arith; rest = rw add-one (rw f at ahead) }

pub ruleset homing = (rules, home-start, home-end, home_here, home-on)

-- `home_for`
module _ (areas : List ℕ) (n id position : ℕ) {h : Home} (e : h ≡ home_from areas n id 0 n) where
  pub for-past : h.size ≤ position → record { area = 0; id = 0; start = 0; size = 0 } ≡ home_for areas n id position
  unfolding home_for
  for-past l = rw (← e, le-ltb position h.size l)

  pub for-in : position < h.size → h ≡ home_for areas n id position
  unfolding home_for
  for-in l = rw (← e, lt-ltb position h.size l)

pub ruleset within = (rules, for-past, for-in)
