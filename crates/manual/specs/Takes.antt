-- What it means that a reader takes written bytes back.
-- Assumes nothing.
use Rattle.std.specs.Prelude.{ℕ, ◌+◌, ◌≡◌, Bool, List, [], ◌++◌, drop, length}
use Rattle.format.specs.Lists.{run}
use Rattle.format.specs.Got.{Reader, is}

-- at a place of any line where the bytes w stand, and behind them none that passes the test, the reader gives the value a and uses just those bytes
pub record Takes {A : Type 0} (m : Reader A) (at : ℕ) (w : List ℕ) (a : A) (p : ℕ → Bool) : Type 0 where
  pub takes : (s rest : List ℕ) → drop at s ≡ w ++ rest → run p rest ≡ [] → m s at ≡ is a (at + length w)

-- the reader gives the value and uses the line whole
abbrev pub ReadsWhole : {A : Type 0} → Reader A → List ℕ → A → Type 0
ReadsWhole m line a = m line 0 ≡ is a (length line)
