-- What the proofs of placed rows share: a law for each return.
-- Assumes nothing.
use Prim.Native.Nat.{ℕ, min}
use mathlib.Core.Path.{◌≡◌, refl, sym, ◌∙◌}
use mathlib.Core.Bool.{Bool, true, false, not, ◌&&◌}
use mathlib.Core.List.{List}
use lib.ListN.{length, replicate}
use lib.Seq.{sets}
use lib.Dec.{leb}
use borrow.Author.Rules.{rules}
use borrow.Author.Tests.{not-true}
use Rattle.sites.specs.declared.Filled.{Filled}
use Rattle.kept_sizes.specs.declared.Sizes.{Sizes}
use Rattle.kept_sizes.specs.Sizes.{few, SizesAre}
use Rattle.fit_rows.specs.Fits.{fits_rows}
use Rattle.laid_rows.specs.Over.{around, rows_over}
use Rattle.placed_rows.specs.declared.Placed.TheVariants.{Refusal, Done}
use Rattle.placed_rows.specs.Placed.{enough, answer_by, RowsPlaced}

is_false : (b : Bool) → not b ≡ true → b ≡ false
is_false b h = not-true b h

is_true : (b : Bool) → not b ≡ false → b ≡ true
is_true true h = refl
is_true false h = sym h

-- `place_rows`
module _ (areas symbols : List ℕ) (filled : Filled) (pairs content fragments : List ℕ) (n : ℕ) (big : Bool) (width : ℕ) (chosen outside out : List ℕ)
    {z : Sizes} (Z : SizesAre areas (few filled.areas) z) {e : Bool} (ee : e ≡ (leb z.kept (length chosen) && leb filled.symbols (length outside))) where
  enough-is : enough areas filled.areas filled.symbols chosen outside ≡ e
  unfolding enough
  enough-is = sym (ee ∙ rw Z.kept-is)

  pub place-few : not e ≡ true → RowsPlaced areas symbols filled pairs content fragments n big width chosen outside out (Refusal 1 0) out
  unfolding answer_by
  place-few h = let b : e ≡ false = is_false e h in record { says = rw (enough-is, b); held = rw (enough-is, b) }

  module _ (h : not e ≡ false) {g : Bool} (eg : g ≡ fits_rows areas filled.areas pairs fragments n width) where
    all_there : e ≡ true
    all_there = is_true e h

    pub place-unfit : not g ≡ true → RowsPlaced areas symbols filled pairs content fragments n big width chosen outside out (Refusal 25 0) out
    unfolding answer_by
    place-unfit f = let b : g ≡ false = is_false g f in record { says = rw (enough-is, all_there, ← eg, b); held = rw (enough-is, all_there, ← eg, b) }

    pub place-done : not g ≡ false → {cleared out' : List ℕ} → cleared ≡ sets out 0 (replicate z.total 0)
        → out' ≡ rows_over big width (around areas symbols filled chosen outside) pairs content fragments 0 (min n 4096) cleared
        → RowsPlaced areas symbols filled pairs content fragments n big width chosen outside out (Done z.total) out'
    unfolding answer_by
    place-done f ec eo = let b : g ≡ true = is_true g f in record { says = rw (enough-is, all_there, ← eg, b, Z.total-is); held = eo ∙ rw (enough-is, all_there, ← eg, b, ec, Z.total-is) }

pub ruleset placing = (rules, place-few, place-unfit, place-done)
