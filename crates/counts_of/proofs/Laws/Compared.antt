-- What is told, compared with what was counted.
-- Assumes nothing.
use Prim.Native.Nat.{ℕ}
use mathlib.Core.Path.{◌≡◌}
use mathlib.Core.List.{List}
use borrow.Author.Rules.{rules}
use borrow.Author.Tests.{eq-eqb, ne_eqb}
use Rattle.format.specs.Header.{Form}
use Rattle.counts.specs.Counts.{compared, equal, not_equal, not_told, told_from}
use Rattle.h_line.specs.Told.{told_two, two_of}
use Rattle.std.specs.Prelude.{Option, Some, None}
use Rattle.h_line.specs.declared.Told.{Told}

module _ (f : Form) (text : List ℕ) (head n m : ℕ) {d : Option Told} (e : told_two d ≡ told_from f text head) where
  pub compared-1 : d ≡ None → not_told ≡ compared (told_from f text head) (two_of n m)
  compared-1 g = rw (← e, g)

  module _ {t : Told} (g : d ≡ Some t) where
    pub compared-2 : (t.areas ≡ n → ⊥) → not_equal ≡ compared (told_from f text head) (two_of n m)
    compared-2 h = rw (← e, g, ne_eqb t.areas n h)

    module _ (h : t.areas ≡ n) where
      pub compared-3 : (t.symbols ≡ m → ⊥) → not_equal ≡ compared (told_from f text head) (two_of n m)
      compared-3 i = rw (← e, g, eq-eqb t.areas n h, ne_eqb t.symbols m i)

      pub compared-4 : t.symbols ≡ m → equal ≡ compared (told_from f text head) (two_of n m)
      compared-4 i = rw (← e, g, eq-eqb t.areas n h, eq-eqb t.symbols m i)

pub ruleset comparing = (rules, compared-1, compared-2, compared-3, compared-4)
