-- For a caller of `home_at`: what the home of an area is.
-- Assumes nothing.
use Prim.Native.Nat.{ℕ, ◌≤◌}
use mathlib.Core.Path.{◌≡◌, refl, ap, ◌∙◌}
use mathlib.Core.Bool.{Bool, true, false}
use mathlib.Core.List.{List}
use mathlib.Core.Option.{Option, none, some}
use native.Mathlib.Numerals.{add-one}
use lib.Dec.{leb}
use borrow.Author.Tests.{le-leb}
use Rattle.format.specs.Lists.{pick}
use Rattle.format.specs.Tables.{rank, offset}
use Rattle.format.specs.Placing.{extent}
use Rattle.format.specs.Rows.{plus_one_or_zero}
use Rattle.laws.specs.Rows.{areas_in}
use Rattle.homes.specs.declared.Home.{Home}
use Rattle.homes.specs.Home.{no_home, home_by_of, home_at}

module _ (areas : List ℕ) (n i : ℕ) {h : Home} (e : h ≡ home_at areas n i) where
  -- it is that of the area
  pub home-own : h.area ≡ i
  unfolding home_at
  home-own = rw e (go (leb n 64) (rank 0 (areas_in areas n) i))
    where
      go : (b : Bool) (o : Option ℕ) → (pick b (home_by_of i (offset (areas_in areas n) i) (extent (areas_in areas n) i) o) (no_home i)).area ≡ i
      go true none = refl
      go true (some k) = refl
      go false o = refl

  module _ (m : n ≤ 64) where
    -- it goes by the area's rank
    pub by_rank : h ≡ home_by_of i (offset (areas_in areas n) i) (extent (areas_in areas n) i) (rank 0 (areas_in areas n) i)
    unfolding home_at
    by_rank = rw (le-leb n 64 m) at e

    -- and so does its id
    pub home-id : h.id ≡ plus_one_or_zero (rank 0 (areas_in areas n) i)
    home-id = ap (λ (x : Home). x.id) by_rank ∙ go (rank 0 (areas_in areas n) i)
      where
        go : (o : Option ℕ) → (home_by_of i (offset (areas_in areas n) i) (extent (areas_in areas n) i) o).id ≡ plus_one_or_zero o
        go none = refl
        go (some k) = rw add-one
