-- A test turned around.
-- Assumes nothing.
use mathlib.Core.Path.{◌≡◌, refl, sym}
use mathlib.Core.Bool.{Bool, false, not, true}

pub was-no : (b : Bool) → not b ≡ true → b ≡ false
was-no true h = sym h
was-no false h = refl

pub was-yes : (b : Bool) → not b ≡ false → b ≡ true
was-yes true h = refl
was-yes false h = sym h
