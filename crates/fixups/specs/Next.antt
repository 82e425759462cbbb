-- The entries at which no fragment gives a fixup.
-- Assumes nothing.
use Rattle.std.specs.Prelude.{ℕ, ◌≤◌, ◌<◌, ◌≡◌, true, List, get_or}
use Rattle.format.specs.Mode.{gives}

-- y is at most r, and at most x if x is not below e; and it is not below e if r is not
pub record Nearer (x e r y : ℕ) : Type 0 where
  pub most : y ≤ r
  pub least : e ≤ x → y ≤ x
  pub above : e ≤ r → e ≤ y

-- the same with the entry of the i-th fragment, if its mode can give a fixup
pub record NearerAt (ms es : List ℕ) (i e r y : ℕ) : Type 0 where
  pub most : y ≤ r
  pub least : gives (get_or ms i 0) ≡ true → e ≤ get_or es i 0 → y ≤ get_or es i 0
  pub above : e ≤ r → e ≤ y

-- from the entry e up to r, without r, none of the first c fragments stands whose mode can give a fixup
pub record Clear (ms es : List ℕ) (c e r : ℕ) : Type 0 where
  pub above : e ≤ r
  pub none : (i : ℕ) → i < c → gives (get_or ms i 0) ≡ true → e ≤ get_or es i 0 → r ≤ get_or es i 0
