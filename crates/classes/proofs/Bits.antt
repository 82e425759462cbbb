-- What goes by the class of a mode.
-- Assumes nothing.
use Prim.Native.Nat.{ℕ, ◌≤◌}
use mathlib.Core.Path.{◌≡◌}
use mathlib.Core.Bool.{Bool}
use native.Mathlib.Omega.{arith}
use mir.Val.{Fits}
use mir.Syntax.{w32}
use lib.Dec.{lit≤}
use borrow.Author.Rules.{rules}
use Rattle.format.specs.Mode.{Addr11, Addr16, Addr19, Addr24, Byte, Class, Other, class_of, size_of, on_site, gives, gives_of}

pub gives-is : (m : ℕ) {c : Class} → c ≡ class_of m → {g : Bool} → g ≡ gives_of c m → g ≡ gives m
unfolding gives
gives-is m ec eg = rw ec at eg

small-class : (c : Class) → size_of c ≤ 3
small-class Addr19 = lit≤ tt
small-class Addr11 = lit≤ tt
small-class Addr24 = lit≤ tt
small-class Addr16 = lit≤ tt
small-class Byte = lit≤ tt
small-class Other = lit≤ tt

pub size_fits : (c : Class) {n : ℕ} → n ≡ size_of c → Fits w32 n
size_fits c e = record { fits = omega (arith, small-class c) }

pub size_is : (m : ℕ) {c : Class} → c ≡ class_of m → {n : ℕ} → n ≡ size_of c → n ≡ on_site m
unfolding on_site
size_is m ec en = rw ec at en

pub ruleset measuring = (rules, gives-is, size_fits, size_is)
