-- No second answer fits the contract of two lines at a place.
-- Assumes nothing.
use Prim.Native.Nat.{ℕ}
use mathlib.Core.Path.{◌≡◌, refl, ◌∙◌}
use mathlib.Core.List.{List}
use Rattle.std.specs.Prelude.{Option, Some, None}
use Rattle.text_lines.specs.Lines.{LineIs}
use Rattle.text_lines.specs.declared.LineAt.{LineAt}
use Rattle.text_lines.proofs.Unique.{one_line}
use Rattle.pair_places.specs.Places.{PlacesSay, PlacesAre}
use Rattle.pair_places.specs.declared.PairPlaces.{PairPlaces}

-- `pair_places`
pub one-pair-of-places : (text : List ℕ) (p : ℕ) (a b : Option PairPlaces) → PlacesAre text p a → PlacesAre text p b → a ≡ b
one-pair-of-places text p a b u v = go a b u.says v.says
  where
    seconds : (l m k n : LineAt) → l ≡ m → LineIs text l.next k → LineIs text m.next n → k ≡ n
    seconds l m k n e x y = one_line text m.next k n (rw e at x) y

    go : (a b : Option PairPlaces) → PlacesSay text p a → PlacesSay text p b → a ≡ b
    go (Some a) (Some b) x y =
        let e : a.first ≡ b.first = one_line text p a.first b.first x.first y.first in
        let f : a.second ≡ b.second = seconds a.first b.first a.second b.second e x.second y.second in
        rw (e, f)
    go (Some a) None x y = absurd (x.ended (x.first.line-end ∙ y))
    go None (Some b) x y = absurd (y.ended (y.first.line-end ∙ x))
    go None None x y = refl
