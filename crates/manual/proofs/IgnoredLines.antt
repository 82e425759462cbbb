-- The manual's H and M lines: read over.
-- Assumes nothing.
use Prim.Native.Nat.{suc, ℕ, ◌≤◌}
use mathlib.Core.Path.{◌≡◌, refl}
use mathlib.Core.Bool.{Bool, true}
use mathlib.Core.List.{List, ◌∷◌}
use native.Mathlib.Omega.{arith}
use lib.ListN.{length}
use borrow.Author.Tests.{le-leb}
use Rattle.format.specs.Entries.{entry_line, ignored, ignored_line, is_ignored, letter_and_more}
use Rattle.manual.specs.Specifier.{Specifier, form_of}
use Rattle.manual.specs.Takes.{ReadsWhole}
use Rattle.manual.specs.WrittenEntries.{write_header, write_module}

-- a line of a letter and at least one more byte
pub letter-and-more : {A : Type 0} (p : ℕ → Bool) (a : A) (b : ℕ) (rest : List ℕ) → p b ≡ true → 1 ≤ length rest → ReadsWhole (letter_and_more p a) (b ∷ rest) a
unfolding letter_and_more
letter-and-more p a b rest e l = rw (e, le-leb 2 (suc (length rest)) (omega arith))

-- H aa areas gg global symbols is read over, whatever the counts
pub a-written-header-is-ignored : (f g : Specifier) (areas symbols : ℕ) → ReadsWhole (entry_line (form_of g)) (write_header f areas symbols) ignored
unfolding entry_line ignored_line write_header is_ignored
a-written-header-is-ignored f g areas symbols = letter-and-more is_ignored ignored 72 _ refl (omega arith)

-- M name is read over, whatever the name
pub a-written-module-is-ignored : (f : Specifier) (name : List ℕ) → ReadsWhole (entry_line (form_of f)) (write_module name) ignored
unfolding entry_line ignored_line write_module is_ignored
a-written-module-is-ignored f name = letter-and-more is_ignored ignored 77 _ refl (omega arith)
