-- The tests of pairs: fragments, addresses, and the rows of both.
-- Assumes nothing.
use Prim.Native.Nat.{suc, ℕ, ◌*◌, ◌+◌, ◌/◌, ◌<◌, ◌^◌, ◌≤◌}
use mathlib.Core.Path.{◌≡◌, ap, sym, ◌∙◌}
use mathlib.Core.Bool.{Bool, false, true, not}
use mathlib.Core.List.{List}
use native.Mathlib.Omega.{arith}
use lib.ListN.{get_or, length}
use lib.Dec.{ltb}
use borrow.Author.Rules.{rules}
use borrow.Author.Tests.{le-leb, le-ltb, lt-leb, lt-ltb}
use Rattle.header.specs.Told.{more_of}
use Rattle.header.specs.declared.Width.{Width}
use Rattle.header.specs.declared.Width.TheVariants.{Four, Three, Two}
use Rattle.relocation_out.specs.RelocationOut.{row_at}
use Rattle.row_texts.specs.GoodRows.{all, good_fragment, good_fragments, good_pair, good_pairs}
use Rattle.good_names.proofs.Passing.{was-no, was-yes, Passing, pass-start, pass-end, pass-more, pass-bad}

-- `fragment_good`
module _ (s : List ℕ) (i : ℕ) {m : ℕ} (u : m ≡ get_or s (3 * i) 0) where
  pub fragment-mode : 2048 ≤ m → false ≡ good_fragment s i
  unfolding good_fragment row_at
  fragment-mode h = rw (← u, le-ltb m 2048 h)

  module _ (h : m < 2048) {e : ℕ} (v : e ≡ get_or s (3 * i + 1) 0) where
    pub fragment-entry : 256 ≤ e → false ≡ good_fragment s i
    unfolding good_fragment row_at
    fragment-entry k = rw (← u, lt-ltb m 2048 h, ← v, le-ltb e 256 k)

    pub fragment-index : e < 256 → {x : ℕ} → x ≡ get_or s (3 * i + 2) 0 → ltb x 65536 ≡ good_fragment s i
    unfolding good_fragment row_at
    fragment-index k w = rw (← u, lt-ltb m 2048 h, ← v, lt-ltb e 256 k, ← w)

pub ruleset fragmenting = (rules, fragment-mode, fragment-entry, fragment-index)

-- `fragments_good`
pub record Fragments (s : List ℕ) (a n i : ℕ) : Type 0 where
  pub passing : Passing (good_fragment s) a n i
  pub inside : a + n ≤ length s / 3

pub fragments-start : (s : List ℕ) (a n : ℕ) → a + n ≤ length s / 3 → Fragments s a n 0
fragments-start s a n h = record { passing = pass-start (good_fragment s) a n; inside = h }

pub fragments-past : (s : List ℕ) {a n f k : ℕ} → f ≡ a → k ≡ n → length s / 3 < f + k → false ≡ good_fragments s a n
unfolding good_fragments
fragments-past s {a} {n} {f} {k} u v h = let l : length s / 3 < a + n = omega arith in rw (lt-leb (a + n) (length s / 3) l)

module _ {s : List ℕ} {a n i : ℕ} (x : Fragments s a n i) where
  whole : good_fragments s a n ≡ all (good_fragment s) a n
  unfolding good_fragments
  whole = rw (le-leb (a + n) (length s / 3) x.inside)

  pub fragments-end : {b m : ℕ} → a ≡ b → n ≡ m → n ≤ i → true ≡ good_fragments s b m
  fragments-end u v h = rw (← u, ← v) (pass-end x.passing h ∙ sym whole)

  module _ {b : Bool} (e : b ≡ good_fragment s (a + i)) (h : i < n) where
    pub fragments-more : not b ≡ false → Fragments s a n (i + 1)
    fragments-more g = record { passing = pass-more x.passing e h (was-yes b g); inside = x.inside }

    pub fragments-bad : {c m : ℕ} → a ≡ c → n ≡ m → not b ≡ true → false ≡ good_fragments s c m
    fragments-bad u v g = rw (← u, ← v) (pass-bad x.passing e h (was-no b g) ∙ sym whole)

pub ruleset fragments = (rules, fragments-start, fragments-past, fragments-end, fragments-more, fragments-bad)

-- `address_good`
module _ (a : ℕ) {w : Width} where
  pub address-two : w ≡ Two → ltb a 65536 ≡ ltb a (256 ^ suc (more_of w))
  address-two e = rw e

  pub address-three : w ≡ Three → ltb a 16777216 ≡ ltb a (256 ^ suc (more_of w))
  address-three e = rw e

  pub address-four : w ≡ Four → a < 2 ^ 32 → true ≡ ltb a (256 ^ suc (more_of w))
  address-four e h = rw e (sym (lt-ltb a 4294967296 h))

pub ruleset addresses = (rules, address-two, address-three, address-four)

-- `pair_good`
module _ (k : ℕ) (ps : List ℕ) (n : ℕ) (fs : List ℕ) (i : ℕ) {a : ℕ} (u : a ≡ get_or ps (7 * i + 1) 0) {b : Bool} (e : b ≡ ltb a (256 ^ k)) where
  pub pair-address : not b ≡ true → false ≡ good_pair k ps n fs i
  unfolding good_pair
  pair-address g = let z : ltb a (256 ^ k) ≡ false = sym e ∙ was-no b g in rw (← u, z)

  module _ (g : not b ≡ false) {x : ℕ} (v : x ≡ get_or ps (7 * i + 2) 0) where
    one : ltb a (256 ^ k) ≡ true
    one = sym e ∙ was-yes b g

    pub pair-area : 65536 ≤ x → false ≡ good_pair k ps n fs i
    unfolding good_pair
    pair-area h = rw (← u, one, ← v, le-ltb x 65536 h)

    module _ (h : x < 65536) {y y' z z' : ℕ} (p : y ≡ get_or ps (7 * i + 3) 0) (p' : y' ≡ y) (q : z ≡ get_or ps (7 * i + 4) 0) (q' : z' ≡ z) where
      pub pair-content : n < y' + z' → false ≡ good_pair k ps n fs i
      unfolding good_pair
      pair-content l = let m : n < y + z = omega arith in rw (← u, one, ← v, lt-ltb x 65536 h, ← p, ← q, lt-leb (y + z) n m)

      pub pair-fragments : y' + z' ≤ n → {f c : ℕ} → f ≡ get_or ps (7 * i + 5) 0 → c ≡ get_or ps (7 * i + 6) 0 → {r : Bool} → r ≡ good_fragments fs f c → r ≡ good_pair k ps n fs i
      unfolding good_pair
      pair-fragments l {f} {c} s t w = let m : y + z ≤ n = omega arith in w ∙ rw (← u, one, ← v, lt-ltb x 65536 h, ← p, ← q, le-leb (y + z) n m, ← s, ← t)

pub ruleset pairing = (rules, pair-address, pair-area, pair-content, pair-fragments)

-- `pairs_good`
pub record Pairs (k : ℕ) (ps : List ℕ) (c : ℕ) (fs : List ℕ) (n i : ℕ) : Type 0 where
  pub passing : Passing (good_pair k ps c fs) 0 n i
  pub inside : n ≤ length ps / 7

module _ (k : ℕ) (ps : List ℕ) (c : ℕ) (fs : List ℕ) (n : ℕ) where
  pub pairs_start : n ≤ length ps / 7 → Pairs k ps c fs n 0
  pairs_start h = record { passing = pass-start (good_pair k ps c fs) 0 n; inside = h }

  pub pairs-past : length ps / 7 < n → false ≡ good_pairs k ps n c fs
  unfolding good_pairs
  pairs-past h = rw (lt-leb n (length ps / 7) h)

module _ {k : ℕ} {ps : List ℕ} {c : ℕ} {fs : List ℕ} {n i : ℕ} (x : Pairs k ps c fs n i) where
  all-pairs : good_pairs k ps n c fs ≡ all (good_pair k ps c fs) 0 n
  unfolding good_pairs
  all-pairs = rw (le-leb n (length ps / 7) x.inside)

  pub pairs_end : n ≤ i → true ≡ good_pairs k ps n c fs
  pairs_end h = pass-end x.passing h ∙ sym all-pairs

  module _ {b : Bool} (e : b ≡ good_pair k ps c fs i) (h : i < n) where
    at_zero : b ≡ good_pair k ps c fs (0 + i)
    at_zero = let z : 0 + i ≡ i = omega arith in e ∙ ap (good_pair k ps c fs) (sym z)

    pub pairs-more : not b ≡ false → Pairs k ps c fs n (i + 1)
    pairs-more g = record { passing = pass-more x.passing at_zero h (was-yes b g); inside = x.inside }

    pub pairs-bad : not b ≡ true → false ≡ good_pairs k ps n c fs
    pairs-bad g = pass-bad x.passing at_zero h (was-no b g) ∙ sym all-pairs

pub ruleset pairs = (rules, pairs_start, pairs-past, pairs_end, pairs-more, pairs-bad)
