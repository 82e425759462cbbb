-- The home of the kept area with an id, if a position lies in its image.
-- Assumes nothing.
use Rattle.std.specs.Prelude.{ℕ, zero, suc, ◌<◌, ◌≡◌, List, eqb, ltb}
use Rattle.std.proofs.Math.Option.{none, some}
use Rattle.format.specs.Lists.{pick}
use Rattle.format.specs.Outcome.{refused}
use Rattle.format.specs.Placing.{extent}
use Rattle.format.specs.Tables.{offset, rank}
use Rattle.laws.specs.Rows.{areas_in}
use Rattle.homes.specs.declared.Home.{Home}
use Rattle.homes.specs.Home.{home_at, home_by_of, no_home}
use Rattle.last_writer.specs.LastWriter.{position_in, span_from}

-- the first of m areas from the i-th on that has the id
unfoldable pub home_from : (areas : List ℕ) (n id i m : ℕ) → Home
home_from areas n id i zero = no_home 0
home_from areas n id i (suc m) = let rest = home_from areas n id (suc i) m in pick (eqb (home_at areas n i).id (suc id)) (home_at areas n i) rest

abbrev pub within_home : (position : ℕ) → Home → Home
within_home position h = pick (ltb position h.size) h (no_home 0)

unfoldable pub home_for : (areas : List ℕ) (n id position : ℕ) → Home
home_for areas n id position = within_home position (home_from areas n id 0 n)

-- it is that area's, and the definition finds its image
pub record Homed (areas : List ℕ) (n id : ℕ) (h : Home) : Type 0 where
  pub ranked : rank 0 (areas_in areas n) h.area ≡ some id
  pub home : h ≡ home_by_of h.area (offset (areas_in areas n) h.area) (extent (areas_in areas n) h.area) (some id)
  pub span : span_from 0 (areas_in areas n) id ≡ some (record { start = offset (areas_in areas n) h.area; size = extent (areas_in areas n) h.area })

-- there is one, or the definition finds none
pub record HomeIs (areas : List ℕ) (n id : ℕ) (h : Home) : Type 0 where
  pub missing : h.id ≡ 0 → span_from 0 (areas_in areas n) id ≡ none
  pub present : (h.id ≡ 0 → ⊥) → Homed areas n id h

-- 20 exactly where it has no id; else the position lies in the image
pub record HomeForIs (areas : List ℕ) (n id position : ℕ) (h : Home) : Type 0 where
  pub twenty : h.id ≡ 0 → position_in position (span_from 0 (areas_in areas n) id) ≡ refused 20 0
  pub present : (h.id ≡ 0 → ⊥) → Homed areas n id h
  pub inside : (h.id ≡ 0 → ⊥) → position < h.size
