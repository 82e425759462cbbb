-- The order of lines: what is shown of two neighbouring pairs in either order, of one pair placed twice running, and of pairs in any order that
-- such exchanges lead to.
-- Assumes nothing.
use Rattle.std.specs.Prelude.{ℕ, ◌+◌, ◌≡◌, true, List, [], ◌∷◌, ◌++◌, length, take, drop}
use Rattle.format.specs.Header.{Form}
use Rattle.format.specs.Pairs.{Pair}
use Rattle.format.specs.Outcome.{and_then, fine}
use Rattle.format.specs.Records.{Taken}
use Rattle.format.specs.Tables.{Tables, Area}
use Rattle.format.specs.Placing.{State, place_pair, placing}
use Rattle.format.specs.Known.{known_bits}
use Rattle.laws.specs.PairRows.{all_rows}
use Rattle.order.specs.Writes.{rows, wrote}

-- what pairs say, wherever they stand
abbrev pub bodies : List (Taken Pair) → List Pair
bodies [] = []
bodies (p ∷ ps) = p.body ∷ bodies ps

-- two pairs that write no common position
pub record Apart (fm : Form) (t : Tables) (a b : Taken Pair) : Type 0 where
  pub apart : (i : ℕ) → wrote fm t a i ≡ true → wrote fm t b i ≡ true → ⊥

-- two states with the same images
pub record SameImages (areas : List Area) (s u : State) : Type 0 where
  pub values : s.values ≡ u.values
  pub masks : s.masks ≡ u.masks
  pub known : (i : ℕ) → known_bits areas i s.masks ≡ known_bits areas i u.masks

-- two pairs placed from a state, in both orders
pub record EitherWay (fm : Form) (t : Tables) (a b : Taken Pair) (s : State) : Type 0 where
  pub one : State
  pub other : State
  pub one-is : and_then (place_pair fm t s a) (λ x. place_pair fm t x b) ≡ fine one
  pub other-is : and_then (place_pair fm t s b) (λ x. place_pair fm t x a) ≡ fine other
  pub same : SameImages t.areas one other
  pub one-fixups : one.fixups ≡ s.fixups ++ (rows fm t a ++ rows fm t b)
  pub other-fixups : other.fixups ≡ s.fixups ++ (rows fm t b ++ rows fm t a)

-- pairs between others, once a before b, with the state that they leave, and once b before a
pub record Exchanged (fm : Form) (t : Tables) (before behind : List (Taken Pair)) (a b : Taken Pair) (s : State) : Type 0 where
  pub other : State
  -- the other order is accepted too, wherever the pairs then stand in their text
  pub accepted : (ps : List (Taken Pair)) → bodies (before ++ b ∷ a ∷ behind) ≡ bodies ps → placing fm t ps ≡ fine other
  -- images and known bits are equal
  pub same : SameImages t.areas s other
  -- the same fixups, the rows of one pair before those of the other
  pub fixups : s.fixups ≡ all_rows fm t before ++ (rows fm t a ++ (rows fm t b ++ all_rows fm t behind))
  pub other-fixups : other.fixups ≡ all_rows fm t before ++ (rows fm t b ++ (rows fm t a ++ all_rows fm t behind))

-- pairs with one of them twice running, with the state that they leave, and with it once
pub record Once (fm : Form) (t : Tables) (before behind : List (Taken Pair)) (a : Taken Pair) (s : State) : Type 0 where
  pub single : State
  pub accepted : (ps : List (Taken Pair)) → bodies (before ++ a ∷ behind) ≡ bodies ps → placing fm t ps ≡ fine single
  pub same : SameImages t.areas s single
  pub fixups : s.fixups ≡ all_rows fm t before ++ (rows fm t a ++ (rows fm t a ++ all_rows fm t behind))
  pub single-fixups : single.fixups ≡ all_rows fm t before ++ (rows fm t a ++ all_rows fm t behind)

-- pairs with one of them once, with the state that they leave, and with it twice running
pub record Twice (fm : Form) (t : Tables) (before behind : List (Taken Pair)) (a : Taken Pair) (s : State) : Type 0 where
  pub double : State
  pub accepted : (ps : List (Taken Pair)) → bodies (before ++ a ∷ a ∷ behind) ≡ bodies ps → placing fm t ps ≡ fine double
  pub same : SameImages t.areas s double

-- pairs brought into another order by exchanging neighbours that write no common position
pub data Reordered (fm : Form) (t : Tables) : List (Taken Pair) → List (Taken Pair) → Type 0 where
  as_is : {ps : List (Taken Pair)} → Reordered fm t ps ps
  then-exchange : {ps : List (Taken Pair)} (before behind : List (Taken Pair)) (a b : Taken Pair) → Reordered fm t ps (before ++ a ∷ b ∷ behind) → Apart fm t a b
      → Reordered fm t ps (before ++ b ∷ a ∷ behind)

-- the state that the other order leaves
pub record Sorted (fm : Form) (t : Tables) (ps : List (Taken Pair)) (s : State) : Type 0 where
  pub other : State
  pub accepted : placing fm t ps ≡ fine other
  pub same : SameImages t.areas s other
  -- the rows of the pairs in that order, and as many
  pub fixups : other.fixups ≡ all_rows fm t ps
  pub as_many : length s.fixups ≡ length other.fixups
