-- The answer about two lines at a place.
-- Assumes nothing.
use Rattle.std.specs.Prelude.{ℕ, ◌≤◌, ◌≡◌, List, length, Option, Some, None}
use Rattle.laws.specs.Places.{end_at}
use Rattle.text_lines.specs.Lines.{LineIs}
use Rattle.text_lines.specs.declared.LineAt.{LineAt}
use Rattle.pair_places.specs.declared.PairPlaces.{PairPlaces}

-- two lines at a place inside the text, with a full line end behind the first
pub record LinesAt (text : List ℕ) (p : ℕ) (l k : LineAt) : Type 0 where
  pub within : p ≤ length text
  pub first : LineIs text p l
  pub ended : l.ends ≡ 0 → ⊥
  pub second : LineIs text l.next k

abbrev pub PlacesSay : List ℕ → ℕ → Option PairPlaces → Type 0
PlacesSay text p (Some r) = LinesAt text p r.first r.second
PlacesSay text p None = end_at text p ≡ 0

pub record PlacesAre (text : List ℕ) (p : ℕ) (r : Option PairPlaces) : Type 0 where
  pub says : PlacesSay text p r
