-- What demand 3 says of a cut text. Take a text that the ended reading accepts, and cut it after any byte, with the same buffers lent.
-- Cut before the header line's end, it is refused with 4 at 0. Otherwise it is accepted: its records are exactly the whole's records that
-- end inside the cut; its images and fixups are what those records alone give; and it is called finished exactly when the cut lies
-- directly behind the header line or one of those records.
-- Assumes nothing.
use Rattle.std.specs.Prelude.{ℕ, ◌≤◌, ◌<◌, ◌≡◌, true, ◌↔◌, take, leb}
use mathlib.Core.List.{List, [], ◌∷◌, Memᴰ}
use Rattle.format.specs.Lists.{pick}
use Rattle.format.specs.Outcome.{fine, refused}
use Rattle.format.specs.Records.{Taken, Records, ends, finished, verdict}
use Rattle.format.specs.Reading.{Lent, Read, build, read}

-- the records that end inside a cut behind n bytes
unfoldable pub inside : {A : Type 0} → ℕ → List (Taken A) → List (Taken A)
inside n [] = []
inside n (t ∷ ts) = pick (leb t.end n) (t ∷ inside n ts) (inside n ts)

unfoldable pub cut_records : ℕ → Records → Records
cut_records n r = record { entries = inside n r.entries; pairs = inside n r.pairs }

-- what a cut behind the header's line gives
pub record CutRead (b : Lent) (text : List ℕ) (n : ℕ) (whole : Read) : Type 0 where
  pub cut : Read
  -- it is accepted
  pub accepted : read true b (take n text) ≡ fine cut
  pub same-form : cut.parsed.form ≡ whole.parsed.form
  pub same_head : cut.parsed.head ≡ whole.parsed.head
  -- its records are exactly the whole's records that end inside the cut
  pub its-records : cut.parsed.records ≡ cut_records n whole.parsed.records
  -- its images and fixups are what those records alone give
  pub its-images : build whole.parsed.form (cut_records n whole.parsed.records) ≡ fine cut.built
  -- it is finished exactly when the cut lies directly behind the header line or one of those records
  pub its-verdict : (verdict (take n text) cut.parsed ≡ finished) ↔ Memᴰ n (whole.parsed.head ∷ ends (cut_records n whole.parsed.records))

pub record CutText (b : Lent) (text : List ℕ) (n : ℕ) (whole : Read) : Type 0 where
  -- cut before the header line's end, it is refused with 4
  pub before : n < whole.parsed.head → read true b (take n text) ≡ refused 4 0
  pub from-there : whole.parsed.head ≤ n → CutRead b text n whole
