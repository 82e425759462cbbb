-- What the lent buffers hold once rows and images were laid over them.
-- Assumes nothing.
use Rattle.std.specs.Prelude.{ℕ, ◌*◌, ◌≡◌, List, take, leb}
use Rattle.std.proofs.lemmas.List.Edits.{sets}
use Rattle.format.specs.Lists.{pick, over}
use Rattle.laws.specs.Rows.{fixups_in}
use Rattle.grouped.specs.Group.{areas_for, room_for}

-- at most m
unfoldable pub most : (m n : ℕ) → ℕ
most m n = pick (leb n m) n m

pub record FixupsOut (k kept : ℕ) (rows fixups fixups' : List ℕ) : Type 0 where
  pub stored : fixups' ≡ pick (room_for k rows fixups) (over (areas_for (most 64 kept) 0 (fixups_in rows k)) fixups) fixups

pub record TablesOut (na ns : ℕ) (xs ys areas symbols areas' symbols' : List ℕ) : Type 0 where
  pub of-areas : areas' ≡ sets areas 0 (take (7 * most 64 na) xs)
  pub of-symbols : symbols' ≡ sets symbols 0 (take (5 * most 1024 ns) ys)

pub record ImagesOut (positions k kept : ℕ) (vs ms rows values masks fixups values' masks' fixups' : List ℕ) : Type 0 where
  pub of_values : values' ≡ sets values 0 (take positions vs)
  pub of-masks : masks' ≡ sets masks 0 (take positions ms)
  pub of-fixups : FixupsOut k kept rows fixups fixups'
