-- For a caller of `place_pair`: with the home that `home_at` gives, a pair fits and is placed as the definition has it.
-- Assumes nothing.
use Prim.Native.Nat.{ℕ, zero, suc, ◌+◌, ◌≤◌}
use mathlib.Core.Path.{◌≡◌, refl}
use mathlib.Core.Bool.{true}
use mathlib.Core.List.{List, [], ◌∷◌}
use mathlib.Core.Option.{Option, none, some}
use native.Mathlib.Numerals.{add-one}
use native.Mathlib.Omega.{arith}
use lib.ListN.{length, take, drop}
use borrow.Author.Tests.{eq-eqb, le-leb}
use Rattle.format.specs.Tables.{Area, last_index, total, rank, offset}
use Rattle.format.specs.Placing.{State, extent, place_line, place_pair}
use Rattle.laws.specs.Rows.{areas_in, tables_in}
use Rattle.homes.specs.declared.Home.{Home}
use Rattle.sites.specs.declared.Line.{Line}
use Rattle.sites.specs.declared.Filled.{Filled}
use Rattle.homes.specs.Home.{home_by_of, home_at}
use Rattle.homes.proofs.Use.{home-own, by_rank}
use Rattle.sites.specs.Site.{line_fits, filled_fits}
use Rattle.located.specs.Site.{image_fits, kept_fits}
use Rattle.place.specs.Pair.{pair_of, pair_at, pair_in, fits}

-- what a reading knows when it places a pair: 5 to 9 are ruled out, and the lent rows have room
pub record Fit (l : Line) (h : Home) (bs areas : List ℕ) (n : Filled) (rows : List ℕ) : Type 0 where
  pub home : h ≡ home_at areas n.areas l.area
  pub address : l.width ≤ 4
  pub content : l.bytes ≤ 256
  pub lent : l.bytes ≤ length bs
  pub fragments : l.fragments ≤ 64
  pub listed : n.areas ≤ 64
  pub symbols : n.symbols ≤ 1024
  pub sizes : total (areas_in areas n.areas) ≤ 65536
  pub made : n.fixups ≤ 1024
  pub room : 9216 ≤ length rows

total-two : (i : ℕ) (xs : List Area) → total (take i xs) + total (take 1 (drop i xs)) ≤ total xs
unfolding total
total-two zero [] = omega arith
total-two zero (x ∷ xs) = omega arith
total-two (suc i) [] = omega arith
total-two (suc i) (x ∷ xs) = omega (arith, total-two i xs)

kept-fits : (areas : List Area) (i : ℕ) {h : Home} → total areas ≤ 65536 → (o : Option ℕ) → h ≡ home_by_of i (offset areas i) (extent areas i) o
    → kept_fits h.start h.size (last_index h.id) ≡ true
unfolding image_fits offset extent
kept-fits areas i s none d = rw d
kept-fits areas i s (some k) d = rw (d, add-one, le-leb (total (take i areas) + total (take 1 (drop i areas))) 65536 (omega (arith, total-two i areas)))

module _ {l : Line} {h : Home} {bs areas : List ℕ} {n : Filled} {rows : List ℕ} (f : Fit l h bs areas n rows) where
  -- then the pair fits
  pub fits-when : fits l h bs n rows ≡ true
  unfolding fits line_fits filled_fits
  fits-when =
      rw (
        eq-eqb h.area l.area (home-own areas n.areas l.area f.home),
        le-leb l.width 4 f.address,
        le-leb l.bytes 256 f.content,
        le-leb l.bytes (length bs) f.lent,
        le-leb l.fragments 64 f.fragments,
        le-leb n.areas 64 f.listed,
        le-leb n.symbols 1024 f.symbols,
        le-leb n.fixups 1024 f.made,
        le-leb 9216 (length rows) f.room,
        kept-fits (areas_in areas n.areas) l.area f.sizes (rank 0 (areas_in areas n.areas) l.area) (by_rank areas n.areas l.area f.home f.listed),
      )

  -- and it is placed as the definition has it
  pub placed-when : (ms es xs symbols : List ℕ) (st : State) (radix end : ℕ) → pair_in l h bs ms es xs areas symbols n st radix end ≡ pair_of l bs ms es xs areas symbols n st radix end
  unfolding pair_in pair_of pair_at place_pair place_line tables_in
  placed-when ms es xs symbols st radix end = go (rank 0 (areas_in areas n.areas) l.area) refl (by_rank areas n.areas l.area f.home f.listed)
    where
      go : (o : Option ℕ) → rank 0 (areas_in areas n.areas) l.area ≡ o → h ≡ home_by_of l.area (offset (areas_in areas n.areas) l.area) (extent (areas_in areas n.areas) l.area) o
          → pair_in l h bs ms es xs areas symbols n st radix end ≡ pair_of l bs ms es xs areas symbols n st radix end
      go none r d = rw (d, r)
      go (some k) r d = rw (d, add-one, r)
