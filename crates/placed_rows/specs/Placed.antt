-- The rows of a module's records placed at chosen addresses: too few addresses, then the conditions, then the bytes.
-- Assumes nothing.
use Rattle.std.specs.Prelude.{ℕ, min, ◌≡◌, Bool, ◌&&◌, List, length, replicate, leb}
use Rattle.std.proofs.lemmas.List.Edits.{sets}
use Rattle.format.specs.Lists.{pick}
use Rattle.format.specs.Outcome.{Outcome, fine, refused}
use Rattle.format.specs.Tables.{kept_count, total}
use Rattle.laws.specs.Rows.{areas_in}
use Rattle.sites.specs.declared.Filled.{Filled}
use Rattle.kept_sizes.specs.Sizes.{few}
use Rattle.fit_rows.specs.Fits.{fits_rows}
use Rattle.laid_rows.specs.Over.{around, rows_over}
use Rattle.placed_rows.specs.declared.Placed.{Placed}
use Rattle.placed_rows.specs.declared.Placed.TheVariants.{Refusal, Done}

-- the refusal, or how many bytes were placed
abbrev pub told : Placed → Outcome ℕ
told (Refusal n p) = refused n p
told (Done n) = fine n

-- an address for each kept area and for each symbol
unfoldable pub enough : (areas : List ℕ) (na ns : ℕ) (chosen outside : List ℕ) → Bool
enough areas na ns chosen outside = leb (kept_count (areas_in areas (few na))) (length chosen) && leb ns (length outside)

-- 1, then 25, or how many bytes the kept areas have
unfoldable pub answer_by : (enough fits : Bool) (total : ℕ) → Outcome ℕ
answer_by e f n = pick e (pick f (fine n) (refused 25 0)) (refused 1 0)

-- the first n rows of pairs
pub record RowsPlaced (areas symbols : List ℕ) (filled : Filled) (pairs content fragments : List ℕ) (n : ℕ) (big : Bool) (width : ℕ) (chosen outside out : List ℕ) (r : Placed) (out' : List ℕ) : Type 0 where
  pub says : told r ≡ answer_by (enough areas filled.areas filled.symbols chosen outside) (fits_rows areas filled.areas pairs fragments n width) (total (areas_in areas (few filled.areas)))
  pub held : out' ≡ pick (enough areas filled.areas filled.symbols chosen outside && fits_rows areas filled.areas pairs fragments n width)
      (rows_over big width (around areas symbols filled chosen outside) pairs content fragments 0 (min n 4096) (sets out 0 (replicate (total (areas_in areas (few filled.areas))) 0))) out
