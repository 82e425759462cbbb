-- What the mode step does to a lent part of the work line: the lists at exit, and the answer.
-- Assumes nothing.
use Rattle.std.specs.Prelude.{ℕ, min, ◌+◌, ◌-◌, ◌≤◌, Bool, ◌&&◌, List, ◌≡◌, Option as Answer, Some, None, eqb, leb, ltb, get_or, length, set, take}
use Rattle.std.proofs.Math.Option.{Option, none, some}
use Rattle.format.specs.Lists.{pick}
use Rattle.format.specs.Number.{join}
use Rattle.format.specs.Mode.{Class, touched_of}
use Rattle.format.specs.ModeStep.{keeps_by, masks_by, number_by_of, values_by}
use Rattle.laws.specs.Tab.{over}
use Rattle.class_rows.specs.declared.row.Row.{Row}

-- v at the places below k, and 0 at the others
abbrev pub cell : ℕ → ℕ → ℕ → ℕ
cell k v i = pick (ltb i k) v 0

-- the last touched value, where the class moves the opcode
abbrev pub opcode_of : ℕ → ℕ → List ℕ → ℕ
opcode_of mask t xs = pick (eqb mask 0) 0 (get_or xs (t - 1) 0)

-- three parts that have t entries
pub record Room (t : ℕ) (vs ms ks : List ℕ) : Type 0 where
  pub values : t ≤ length vs
  pub masks : t ≤ length ms
  pub keeps : t ≤ length ks

-- the three lists at exit once the entry i is laid
pub record LaidAt (op mask size i : ℕ) (vs ms ks vs' ms' ks' : List ℕ) : Type 0 where
  pub values : vs' ≡ set vs i (cell 1 op i)
  pub masks : ms' ≡ set ms i (cell 1 mask i)
  pub keeps : ks' ≡ set ks i (cell size 1 i)

-- and once t entries are
pub record Lain (op mask size t : ℕ) (vs ms ks vs' ms' ks' : List ℕ) : Type 0 where
  pub values : vs' ≡ over (cell 1 op) t vs
  pub masks : ms' ≡ over (cell 1 mask) t ms
  pub keeps : ks' ≡ over (cell size 1) t ks

-- the first i of t entries are laid, and the others are as they were
pub record Laying (op mask size t : ℕ) (vs ms ks vs' ms' ks' : List ℕ) (i : ℕ) : Type 0 where
  pub room : Room t vs ms ks
  pub within : i ≤ t
  pub cells : Lain op mask size i vs ms ks vs' ms' ks'

-- two more of them are laid, or one where it is the last
pub record TwoLaid (op mask size i t : ℕ) (vs ms ks vs' ms' ks' : List ℕ) : Type 0 where
  pub more : {vs₀ ms₀ ks₀ : List ℕ} → Laying op mask size t vs₀ ms₀ ks₀ vs ms ks i → Laying op mask size t vs₀ ms₀ ks₀ vs' ms' ks' (min t (i + 2))

-- the number r and the three lists at exit, by a row's numbers and the lists at entry
pub record Laid (row : Row) (t : ℕ) (big : Bool) (r : ℕ) (vs ms ks vs' ms' ks' : List ℕ) : Type 0 where
  pub number : r ≡ join big (take (min row.joins 4) vs)
  pub lain : Lain (opcode_of row.mask t vs) row.mask row.size t vs ms ks vs' ms' ks'

-- the number, or none where a part was too short
abbrev pub told_step : Answer ℕ → Option ℕ
told_step (Some n) = some n
told_step None = none

-- whether each of three parts has the entries that a class touches
unfoldable pub fits : Class → Bool → (vs ms ks : List ℕ) → Bool
fits c three vs ms ks = leb (touched_of c three) (length vs) && (leb (touched_of c three) (length ms) && leb (touched_of c three) (length ks))

-- the answer r and the three lists at exit: the mode step if the parts are long enough, and else nothing
pub record Modified (c : Class) (three big : Bool) (r : Answer ℕ) (vs ms ks vs' ms' ks' : List ℕ) : Type 0 where
  pub number : told_step r ≡ pick (fits c three vs ms ks) (some (number_by_of big c vs)) none
  pub values : vs' ≡ pick (fits c three vs ms ks) (values_by c three vs) vs
  pub masks : ms' ≡ pick (fits c three vs ms ks) (masks_by c three ms) ms
  pub keeps : ks' ≡ pick (fits c three vs ms ks) (keeps_by c three ks) ks
