-- No difference, said without the list: sizes of kept areas, values, masks, fixups as sets, symbols by first name.
-- Assumes nothing.
use Rattle.std.specs.Prelude.{ℕ, ◌<◌, ◌≡◌, length}
use mathlib.Core.List.{List, [], Memᴰ, ◌∷◌}
use Rattle.std.proofs.Math.Option.{Option, none, some}
use Rattle.format.specs.Lists.{pick}
use Rattle.format.specs.Tables.{Symbol, kept_count, total}
use Rattle.format.specs.Fixups.{Fixup, Reference}
use Rattle.row_parts.specs.Parts.{part_of}
use Rattle.difference.specs.Module.{Module, same_numbers, sizes}

-- what two fixups refer to is equal: an area by id, an outside symbol by its name's bytes
pub record SameReference (s t : List ℕ) (r q : Reference) : Type 0 where
  pub outside : r.outside ≡ q.outside
  pub value : r.value ≡ q.value
  pub id : r.outside ≡ 0 → r.what ≡ q.what
  pub name : (r.outside ≡ 0 → ⊥) → part_of s r.what r.length ≡ part_of t q.what q.length

-- two fixups are equal
pub record SameFixup (s t : List ℕ) (x y : Fixup) : Type 0 where
  pub home : x.home ≡ y.home
  pub position : x.position ≡ y.position
  pub size : x.size ≡ y.size
  pub mode : x.mode ≡ y.mode
  pub number : x.number ≡ y.number
  pub refers : SameReference s t x.refers y.refers

-- a fixup among rows that equals one
pub record Found (s t : List ℕ) (x : Fixup) (ys : List Fixup) : Type 0 where
  pub fixup : Fixup
  pub among : Memᴰ fixup ys
  pub same : SameFixup s t x fixup

-- each fixup of one is among the other's
abbrev pub Covers : Module → Module → Type 0
Covers a b = (x : Fixup) → Memᴰ x a.fixups → Found a.text b.text x b.fixups

-- the value of the first symbol of a name
unfoldable pub value_of : List ℕ → List ℕ → List Symbol → Option ℕ
value_of text n [] = none
value_of text n (s ∷ ss) = let rest = value_of text n ss in pick (same_numbers n (part_of text s.name.at s.name.length)) (some s.value) rest

-- nothing differs
pub record Same (a b : Module) : Type 0 where
  pub areas : sizes a.areas ≡ sizes b.areas
  pub values : a.values ≡ b.values
  pub masks : a.masks ≡ b.masks
  pub fixups : Covers a b
  pub fixups-back : Covers b a
  pub symbols : (n : List ℕ) → value_of a.text n a.symbols ≡ value_of b.text n b.symbols

-- images as long as the kept areas in all, and fixups of kept areas only: so it is of everything that was read
pub record Whole (m : Module) : Type 0 where
  pub values : length m.values ≡ total m.areas
  pub masks : length m.masks ≡ total m.areas
  pub fixups : (x : Fixup) → Memᴰ x m.fixups → x.home < kept_count m.areas
