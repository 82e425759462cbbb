-- The walk over group two that stores its records, and where group two begins.
-- Assumes nothing.
use Rattle.std.specs.Prelude.{ℕ, ◌*◌, ◌≤◌, ◌<◌, ◌≡◌, true, List, [], ◌∷◌, length}
use Rattle.format.specs.Header.{Form}
use Rattle.format.specs.Pairs.{Pair, placed, skipped}
use Rattle.format.specs.Records.{Taken}
use Rattle.any_radix.specs.ReadAny.{read_any}
use Rattle.laws.specs.Places.{pairs_at, records_at}
use Rattle.record_rows.specs.ReadPairs.{HeldPairs, laid_over, pairs_from, roomy}
use Rattle.records.specs.Storing.{Onward}
use Rattle.pairs_answer.specs.Told.{PairsAnswer, told}
use Rattle.pair_walk.specs.declared.Walked.{Walked}
use Rattle.records.specs.declared.walk.Turn.{Turn}
use Rattle.records.specs.declared.walk.Turn.TheVariants.{Done, Goes}

-- 7 and 8 are not given
abbrev pub PairFits : Pair → Type 0
PairFits skipped = Unit {0}
PairFits (placed c r) = (length c.bytes ≤ 256) × (length r.fragments ≤ 64)

abbrev pub EachFits : List (Taken Pair) → Type 0
EachFits [] = Unit {0}
EachFits (p ∷ ps) = PairFits p.body × EachFits ps

pub record Fitting (ps : List (Taken Pair)) : Type 0 where
  pub each : EachFits ps

-- what a turn of the walk asks
pub record Ready (f : Form) (text : List ℕ) (g : Walked) : Type 0 where
  pub inside : g.next ≤ length text
  pub pairs-low : g.counts.pairs ≤ g.next
  pub content-low : g.counts.content ≤ 256 * g.counts.pairs
  pub fragments-low : g.counts.fragments ≤ 64 * g.counts.pairs
  pub fit : Fitting (pairs_at true f text g.next)

-- the walk goes on from there
pub record GoesOn (f : Form) (text : List ℕ) (g : Walked) (h : HeldPairs) (g' : Walked) (h' : HeldPairs) : Type 0 where
  pub onward : Onward (pairs_at true f text g.next) g.counts h (pairs_at true f text g'.next) g'.counts h'
  pub ready : Ready f text g'
  pub less : g.next < g'.next

abbrev pub TurnSays : Form → List ℕ → Walked → HeldPairs → Turn → HeldPairs → Type 0
TurnSays f text g h (Goes g') h' = GoesOn f text g h g' h'
TurnSays f text g h Done h' = (pairs_at true f text g.next ≡ []) × (h' ≡ h)

pub record TurnIs (f : Form) (text : List ℕ) (g : Walked) (h : HeldPairs) (r : Turn) (h' : HeldPairs) : Type 0 where
  pub says : TurnSays f text g h r h'

-- group two begins at r, behind group one from a place on
pub record TwoAt (f : Form) (text : List ℕ) (at r : ℕ) : Type 0 where
  pub two : (records_at true f text at).pairs ≡ pairs_at true f text r
  pub inside : r ≤ length text

-- the answer and the rows of a text that is read, its header of any radix
pub record Laid (text : List ℕ) (old : HeldPairs) (r : PairsAnswer) (new : HeldPairs) : Type 0 where
  pub says : told r ≡ (pairs_from (read_any roomy text)).answer
  pub held : new ≡ laid_over (pairs_from (read_any roomy text)).rows old
