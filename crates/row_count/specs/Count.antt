-- How many fixups there are behind a fragment; 11, 12 and 13.
-- Assumes nothing.
use Rattle.std.specs.Prelude.{ℕ, suc, ◌≤◌, ◌≡◌, ltb, Result, Ok, Err}
use Rattle.std.proofs.Math.Option.{Option, none, some}
use Rattle.format.specs.Lists.{pick}
use Rattle.format.specs.Outcome.{Outcome, fine, refused, and_then}
use Rattle.format.specs.Fixups.{Reference}
use Rattle.references.specs.declared.Refers.{Refers}
use Rattle.references.specs.References as ref

-- 12 where there is no number i of n, 13 where there are 1,024 already
unfoldable pub count_one : (i n k place : ℕ) → Outcome ℕ
count_one i n k place = pick (ltb i n) (pick (ltb k 1024) (fine (suc k)) (refused 13 place)) (refused 12 place)

abbrev pub count_to : (i n k place : ℕ) → Option Reference → Outcome ℕ
count_to i n k place none = fine k
count_to i n k place (some r) = count_one i n k place

-- behind a fragment whose reference was looked up
unfoldable pub count_for : Refers → (i n k place : ℕ) → Outcome ℕ
count_for to i n k place = and_then (ref.told place to) (λ r. count_to i n k place r)

-- what an answer says
abbrev pub told_count : (place : ℕ) → Result ℕ ℕ → Outcome ℕ
told_count place (Err n) = refused n place
told_count place (Ok k) = fine k

-- how many rows there may be then
abbrev pub used_by : Result ℕ ℕ → ℕ
used_by (Err n) = 1024
used_by (Ok k) = k

-- one more: what it says, and that there is room for it
pub record OneMore (i n k : ℕ) (r : Result ℕ ℕ) : Type 0 where
  pub says : (place : ℕ) → told_count place r ≡ count_one i n k place
  pub room : k ≤ 1024 → used_by r ≤ 1024
  pub grew : k ≤ 1024 → k ≤ used_by r

-- the same for a reference that was looked up
pub record CountedFor (to : Refers) (i n k : ℕ) (r : Result ℕ ℕ) : Type 0 where
  pub says : (place : ℕ) → told_count place r ≡ count_for to i n k place
  pub room : k ≤ 1024 → used_by r ≤ 1024
  pub grew : k ≤ 1024 → k ≤ used_by r
