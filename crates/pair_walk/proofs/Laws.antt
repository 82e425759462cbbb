-- The laws of a walk over T and R pairs.
-- Assumes nothing.
use Prim.Native.Nat.{ℕ}
use mathlib.Core.Path.{◌≡◌, ap, refl}
use mathlib.Core.List.{List}
use borrow.Author.Rules.{rules}
use Rattle.record_rows.specs.ReadPairs.{HeldPairs}
use Rattle.pair_rows.specs.Rows.{Low, StoredOne, Stores, is_low}
use Rattle.pair_rows.proofs.Laws.{low-stores}
use Rattle.pair_rows.specs.declared.PairCounts.{PairCounts}
use Rattle.pair_rows.specs.declared.PairLine.{PairLine}
use Rattle.pair_walk.specs.Walk.{WalksOn, walked_to}
use Rattle.pair_walk.specs.declared.Walked.{Walked}

-- `store_here`
pub walks-on : (g : Walked) (to : ℕ) {l : PairLine} {bytes ms es xs : List ℕ} {h h' : HeldPairs} {n : PairCounts} → Stores (is_low g.counts l) l g.counts bytes ms es xs h n h'
    → WalksOn g to l bytes ms es xs h (walked_to to n) h'
walks-on g to w = record { next = refl; stores = w }

pub ruleset walking = (rules, walks-on)

-- where it went on, and that a pair which can be counted is stored
module _ {g : Walked} {to : ℕ} {l : PairLine} {bytes ms es xs : List ℕ} {h : HeldPairs} {r : Walked} {h' : HeldPairs} (w : WalksOn g to l bytes ms es xs h r h') where
  pub went_to : r ≡ walked_to to r.counts
  went_to = ap (λ (p : ℕ). walked_to p r.counts) w.next

  pub stored_there : Low g.counts l → StoredOne l g.counts bytes ms es xs h r.counts h'
  stored_there low = low-stores low w.stores
