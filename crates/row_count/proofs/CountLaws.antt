-- What the proofs of the count share: a law for each return.
-- Assumes nothing.
use Prim.Native.Nat.{ℕ, ◌+◌, ◌≤◌, ◌<◌}
use mathlib.Core.Path.{◌≡◌}
use mathlib.Core.List.{List}
use native.Mathlib.Numerals.{add-one}
use native.Mathlib.Omega.{arith}
use lib.Dec.{eqb}
use lib.ListN.{get_or}
use borrow.Author.Rules.{rules}
use borrow.Author.Tests.{lt-ltb, le-ltb, eq-eqb, ne_eqb}
use Rattle.std.specs.Prelude.{Result, Ok, Err}
use Rattle.format.specs.Lists.{pick}
use Rattle.references.specs.declared.Reference.{Reference}
use Rattle.references.specs.declared.Refers.{Refers}
use Rattle.references.specs.declared.Refers.TheVariants.{Missing, Nothing, To}
use Rattle.row_count.specs.Count.{count_one, count_for, OneMore, CountedFor}

-- `grows`
module _ (wk : List ℕ) {e i t : ℕ} (ei : i ≡ e) (et : t ≡ get_or wk i 0) where
  pub grows_one : t ≡ 1 → ◌≡◌ {A = ℕ} 1 (pick (eqb (get_or wk e 0) 1) 1 0)
  grows_one h = rw (← ei, ← et, eq-eqb t 1 h)

  pub grows_none : (t ≡ 1 → ⊥) → ◌≡◌ {A = ℕ} 0 (pick (eqb (get_or wk e 0) 1) 1 0)
  grows_none h = rw (← ei, ← et, ne_eqb t 1 h)

pub ruleset growing = (rules, grows_one, grows_none)

-- `one_more`
module _ (i n k : ℕ) where
  pub more-12 : n ≤ i → OneMore i n k (Err 12)
  unfolding count_one
  more-12 h = record { says = λ place. rw (le-ltb i n h); room = λ q. omega arith; grew = λ q. q }

  module _ (h : i < n) where
    pub more-13 : 1024 ≤ k → OneMore i n k (Err 13)
    unfolding count_one
    more-13 l = record { says = λ place. rw (lt-ltb i n h, le-ltb k 1024 l); room = λ q. omega arith; grew = λ q. q }

    pub more-one : k < 1024 → OneMore i n k (Ok (k + 1))
    unfolding count_one
    more-one l = record { says = λ place. rw (lt-ltb i n h, lt-ltb k 1024 l, add-one); room = λ q. omega arith; grew = λ q. omega arith }

-- `count_to`
module _ (i n k : ℕ) {to : Refers} where
  pub count-missing : to ≡ Missing → CountedFor to i n k (Err 11)
  unfolding count_for
  count-missing g = record { says = λ place. rw g; room = λ q. omega arith; grew = λ q. q }

  pub count-nothing : to ≡ Nothing → CountedFor to i n k (Ok k)
  unfolding count_for
  count-nothing g = record { says = λ place. rw g; room = λ q. q; grew = λ q. omega arith }

  pub count-one : {t : Reference} → to ≡ To t → {r : Result ℕ ℕ} → OneMore i n k r → CountedFor to i n k r
  unfolding count_for
  count-one g a = record { says = λ place. rw g (a.says place); room = a.room; grew = a.grew }

pub ruleset counting = (rules, more-12, more-13, more-one, count-missing, count-nothing, count-one)
