-- Laws for one row of the contents: in the file, behind the last, where the body before it ended.
-- Assumes nothing.
use Prim.Native.Nat.{ℕ, ◌+◌, ◌*◌, ◌<◌, ◌≤◌}
use mathlib.Core.Path.{◌≡◌, sym, ◌∙◌}
use mathlib.Core.Bool.{Bool, true, false}
use mathlib.Core.List.{List}
use native.Mathlib.Omega.{arith}
use lib.ListN.{length}
use lib.Dec.{leb, eqb}
use borrow.Author.Rules.{rules}
use borrow.Author.Tests.{le-leb, lt-leb, eq-eqb, ne_eqb}
use Rattle.book.specs.Opened.{name_of, in_file, behind}
use Rattle.book.specs.Steps.{last_name, row_fits, row_meets, row_end}
use Rattle.book.specs.Found.{row_at}
use Rattle.book_rows.specs.Told.{row_by}
use Rattle.book_rows.specs.declared.row.Row.{Row}

-- a row in the file, and where its body ends
module _ (xs : List ℕ) (i : ℕ) (r : Row) (p : row_by r ≡ row_at xs i) where
  pub file-not : (a b : ℕ) → a ≡ r.name → b ≡ r.long → length xs < a + b → false ≡ in_file xs (row_at xs i)
  unfolding in_file
  file-not a b e f h = rw (← p, ← e, ← f, lt-leb (a + b) (length xs) h)

  pub file-is : (a b c d : ℕ) → a ≡ r.name → b ≡ r.long → a + b ≤ length xs → c ≡ r.at → d ≡ r.size → leb (c + 2 * d) (length xs) ≡ in_file xs (row_at xs i)
  unfolding in_file
  file-is a b c d e f h g k = rw (← p, ← e, ← f, ← g, ← k, le-leb (a + b) (length xs) h)

  pub row_ends : (c d : ℕ) → c ≡ r.at → d ≡ r.size → c + 2 * d ≡ row_end xs i
  unfolding row_end
  row_ends c d g k = rw (← p, ← g, ← k)

  pub meets-not : (at a : ℕ) → a ≡ r.name → (a ≡ at → ⊥) → false ≡ row_meets xs at i
  unfolding row_meets
  meets-not at a e h = rw (← p, ← e, ne_eqb a at h)

  pub meets-is : (at a b c d : ℕ) → a ≡ r.name → a ≡ at → b ≡ r.at → c ≡ r.name → d ≡ r.long → eqb b (c + d) ≡ row_meets xs at i
  unfolding row_meets
  meets-is at a b c d e h f g k =
      let l : c ≡ at = g ∙ sym e ∙ h in
      rw (← p, ← e, eq-eqb a at h, ← f, ← k, l)

pub ruleset rows-read = (rules, file-not, file-is, row_ends, meets-not, meets-is)

-- both tests of 21
pub fits_both : (xs : List ℕ) (i : ℕ) {t u : Bool} → t ≡ in_file xs (row_at xs i) → t ≡ true → u ≡ behind (last_name xs i) (name_of xs (row_at xs i)) → u ≡ row_fits xs i
unfolding row_fits
fits_both xs i e h f = rw (← e, h, ← f)

pub fits_not : (xs : List ℕ) (i : ℕ) {t : Bool} → t ≡ in_file xs (row_at xs i) → t ≡ false → false ≡ row_fits xs i
unfolding row_fits
fits_not xs i e h = rw (← e, h)

pub ruleset fitting = (rules, fits_both, fits_not)
