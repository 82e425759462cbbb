-- A test turned around.
-- Assumes nothing.
use mathlib.Core.Path.{◌≡◌, refl, sym}
use mathlib.Core.Bool.{Bool, true, false, not}
use borrow.Author.Tests.{not-true}

pub is_false : (b : Bool) → not b ≡ true → b ≡ false
is_false b h = not-true b h

pub is_true : (b : Bool) → not b ≡ false → b ≡ true
is_true true h = refl
is_true false h = sym h
