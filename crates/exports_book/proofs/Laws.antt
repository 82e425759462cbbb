-- From what the definition says to its numbers.
-- Assumes nothing.
use Prim.Native.Nat.{ℕ}
use mathlib.Core.Path.{◌≡◌, refl, ◌∙◌, ap, sym}
use mathlib.Core.List.{List}
use borrow.Author.Rules.{rules}
use Rattle.std.specs.Prelude.{Option, None, Some, Result, Ok, Err}
use Rattle.format.specs.Outcome.{Outcome, fine, refused}
use Rattle.book.specs.Contents.{Row}
use Rattle.book.specs.Found.{Found}
use Rattle.book_read.specs.Told.{Copying, answer_of}
use Rattle.book_open.specs.Told.{opened_of}
use Rattle.book_open.specs.declared.open.Refusal.{Refusal}
use Rattle.book_find.specs.Told.{found_of}
use Rattle.book_find.specs.declared.Found.{Found as Looked}
use Rattle.book_rows.specs.Told.{row_by}
use Rattle.book_rows.specs.declared.row.Row.{Row as Given}
use Rattle.exports_book.specs.Numbers.{Copies, copied_by, copied_numbers, entry_numbers, found_numbers, opened_numbers}
use Rattle.exports_book.specs.declared.OpenedNumbers.{OpenedNumbers}
use Rattle.exports_book.specs.declared.EntryNumbers.{EntryNumbers}
use Rattle.exports_book.specs.declared.FoundNumbers.{FoundNumbers}
use Rattle.exports_book.specs.declared.CopiedNumbers.{CopiedNumbers}

-- the code's answer by its cases
pub book-numbers : {a : Result ℕ Refusal} {n : ℕ} → a ≡ Ok n → record { refusal = 0; entries = n; place = 0 } ≡ opened_numbers (opened_of a)
book-numbers e = rw e refl

pub unopened-numbers : {a : Result ℕ Refusal} {r : ℕ} (s : Refusal) → a ≡ Err s → r ≡ s.number → record { refusal = r; entries = 0; place = s.place } ≡ opened_numbers (opened_of a)
unopened-numbers s e f = rw (e, f) refl

pub at-numbers : {a : Option Looked} (f : Looked) → a ≡ Some f → record { refusal = 0; place = f.place; size = f.size } ≡ found_numbers (found_of a)
at-numbers f e = rw e refl

pub missing-numbers : {a : Option Looked} → a ≡ None → record { refusal = 23; place = 0; size = 0 } ≡ found_numbers (found_of a)
missing-numbers e = rw e refl

pub pattern-numbers : {a : Result ℕ Refusal} {n : ℕ} → a ≡ Ok n → record { refusal = 0; size = n; place = 0 } ≡ copied_by a
pattern-numbers e = rw e refl

pub uncopied-numbers : {a : Result ℕ Refusal} {r : ℕ} (s : Refusal) → a ≡ Err s → r ≡ s.number → record { refusal = r; size = 0; place = s.place } ≡ copied_by a
uncopied-numbers s e f = rw (e, f) refl

pub opened-told : {a o : Outcome ℕ} {r : OpenedNumbers} → r ≡ opened_numbers a → o ≡ a → r ≡ opened_numbers o
opened-told f e = f ∙ ap opened_numbers (sym e)

pub found-told : {a o : Outcome Found} {r : FoundNumbers} → r ≡ found_numbers a → o ≡ a → r ≡ found_numbers o
found-told f e = f ∙ ap found_numbers (sym e)

pub entry-told : {row : Given} {o : Row} → row_by row ≡ o → ◌≡◌ {A = EntryNumbers} (record { name = row.name; length = row.long; place = row.at; size = row.size }) (entry_numbers o)
entry-told e = ap entry_numbers e

-- the code's answer and the definition's have the same numbers
copied-same : (o : Outcome Found) → copied_by (answer_of o) ≡ copied_numbers o
copied-same (fine f) = refl
copied-same (refused n p) = refl

-- a copying that meets its contract answers with the definition's numbers
pub copies : {xs values masks new_values new_masks : List ℕ} {o : Outcome Found} {a : Result ℕ Refusal} {r : CopiedNumbers}
    → r ≡ copied_by a → Copying xs o values masks a new_values new_masks → Copies xs o values masks r new_values new_masks
copies {o = o} f m = record { says = f ∙ ap copied_by m.answer ∙ copied-same o; values-hold = m.values-hold; masks-hold = m.masks-hold }

pub ruleset numbers = (rules, book-numbers, unopened-numbers, at-numbers, missing-numbers, pattern-numbers, uncopied-numbers, opened-told, entry-told, found-told, copies)
