-- The known bits in the area rows, for every text that a reading accepts.
-- Assumes nothing.
use Prim.Native.Nat.{ℕ, zero, suc, ◌+◌, ◌*◌, ◌<◌}
use mathlib.Core.Path.{◌≡◌, refl, ap, sym, ◌∙◌}
use mathlib.Core.Bool.{Bool, true, false}
use mathlib.Core.List.{List, [], ◌∷◌, ◌++◌}
use mathlib.Core.Option.{Option, none, some}
use native.Mathlib.Omega.{arith}
use lib.ListN.{length, get_or, take, drop, get_or-append}
use Rattle.format.specs.Lists.{pick, over}
use Rattle.format.specs.Outcome.{fine}
use Rattle.format.specs.Tables.{Area, kept, kept_size, rank, offset, total}
use Rattle.format.specs.Placing.{extent}
use Rattle.format.specs.Known.{ones_of, known_bits}
use Rattle.format.specs.Rows.{area_table}
use Rattle.format.specs.Reading.{Answer, Lent, Read, read, reading}
use Rattle.format.specs.Held.{Held, Meets, lengths}
use Rattle.laws.proofs.Known.{the-column-is-the-sum, table-length}
use Rattle.known.specs.KnownBits.{KnownRight}

-- an area that is not kept has no masks
no-masks : (k : ℕ) (areas : List Area) (i : ℕ) → rank k areas i ≡ none → total (take 1 (drop i areas)) ≡ 0
unfolding rank total kept_size
no-masks k [] zero h = refl
no-masks k [] (suc i) h = refl
no-masks k (a ∷ rest) zero h = go (kept a) h
  where
    go : (b : Bool) → pick {A = Option ℕ} b (some k) none ≡ none → pick b a.size 0 + 0 ≡ 0
    go true e = let z : ◌≡◌ {A = ℕ} 0 1 = cc in absurd (omega arith)
    go false e = omega arith
no-masks k (a ∷ rest) (suc i) h = no-masks (k + pick (kept a) 1 0) rest i h

unknown : (areas : List Area) (masks : List ℕ) (i : ℕ) → rank 0 areas i ≡ none → known_bits areas i masks ≡ 0
unfolding known_bits extent ones_of
unknown areas masks i h = rw (no-masks 0 areas i h)

table-right : (areas : List Area) (masks : List ℕ) → KnownRight areas (area_table areas masks) masks
table-right areas masks = record {
  sums = λ i l. the-column-is-the-sum areas masks i l;
  unkept = λ i l h. the-column-is-the-sum areas masks i l ∙ unknown areas masks i h;
}

module _ (ended : Bool) (b : Lent) (text : List ℕ) (w : Read) (was : read ended b text ≡ fine w) where
  rows_are : (reading ended b text).areas ≡ area_table w.built.tables.areas w.built.state.masks
  unfolding reading
  rows_are = rw was

  masks-are : (reading ended b text).masks ≡ w.built.state.masks
  unfolding reading
  masks-are = rw was

  -- in the definition's rows
  pub known-bits-are-the-sum : KnownRight w.built.tables.areas (reading ended b text).areas (reading ended b text).masks
  known-bits-are-the-sum = rw (rows_are, masks-are) (table-right w.built.tables.areas w.built.state.masks)

-- in the buffer that a call was lent for area rows
pub a-call-leaves-the-sum : (ended : Bool) (text : List ℕ) (old : Held) (answer : Answer) (new : Held) → Meets ended text old answer new → (w : Read) → read ended (lengths old) text ≡ fine w
    → KnownRight w.built.tables.areas new.areas (reading ended (lengths old) text).masks
unfolding over
a-call-leaves-the-sum ended text old answer new m w was =
    let areas = w.built.tables.areas in
    let masks = w.built.state.masks in
    let rows = area_table areas masks in
    let new_is : new.areas ≡ rows ++ drop (length rows) old.areas = m.areas ∙ rw (rows_are ended (lengths old) text w was) in
    let same : (i : ℕ) → i < length areas → get_or new.areas (7 * i + 6) 0 ≡ get_or rows (7 * i + 6) 0 =
    λ i l. ap (λ (r : List ℕ). get_or r (7 * i + 6) 0) new_is ∙ get_or-append rows (drop (length rows) old.areas) 0 (7 * i + 6) (omega (arith, table-length areas masks)) in
    let right = known-bits-are-the-sum ended (lengths old) text w was in
    let here : (i : ℕ) → get_or rows (7 * i + 6) 0 ≡ get_or (reading ended (lengths old) text).areas (7 * i + 6) 0 =
    λ i. ap (λ (r : List ℕ). get_or r (7 * i + 6) 0) (sym (rows_are ended (lengths old) text w was)) in
    record { sums = λ i l. same i l ∙ (here i ∙ right.sums i l); unkept = λ i l h. same i l ∙ (here i ∙ right.unkept i l h) }
