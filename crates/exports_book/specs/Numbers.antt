-- The answers about a pattern book as numbers.
-- Assumes nothing.
use Rattle.std.specs.Prelude.{ℕ, ◌≡◌, List, Result, Ok, Err}
use Rattle.format.specs.Outcome.{Outcome, fine, refused}
use Rattle.book.specs.Contents.{Row}
use Rattle.book.specs.Found.{Found}
use Rattle.book_read.specs.Told.{values_after, masks_after}
use Rattle.book_open.specs.declared.open.Refusal.{Refusal}
use Rattle.exports_book.specs.declared.OpenedNumbers.{OpenedNumbers}
use Rattle.exports_book.specs.declared.EntryNumbers.{EntryNumbers}
use Rattle.exports_book.specs.declared.FoundNumbers.{FoundNumbers}
use Rattle.exports_book.specs.declared.CopiedNumbers.{CopiedNumbers}

-- how many entries, or a refusal and its place
abbrev pub opened_numbers : Outcome ℕ → OpenedNumbers
opened_numbers (fine n) = record { refusal = 0; entries = n; place = 0 }
opened_numbers (refused n p) = record { refusal = n; entries = 0; place = p }

-- a row of the contents
abbrev pub entry_numbers : Row → EntryNumbers
entry_numbers r = record { name = r.name_at; length = r.name_length; place = r.at; size = r.size }

-- where a pattern stands, or a refusal
abbrev pub found_numbers : Outcome Found → FoundNumbers
found_numbers (fine f) = record { refusal = 0; place = f.at; size = f.size }
found_numbers (refused n p) = record { refusal = n; place = 0; size = 0 }

-- how many positions were copied, or a refusal and its place
abbrev pub copied_numbers : Outcome Found → CopiedNumbers
copied_numbers (fine f) = record { refusal = 0; size = f.size; place = 0 }
copied_numbers (refused n p) = record { refusal = n; size = 0; place = p }

-- the same of the code's answer
abbrev pub copied_by : Result ℕ Refusal → CopiedNumbers
copied_by (Ok n) = record { refusal = 0; size = n; place = 0 }
copied_by (Err r) = record { refusal = r.number; size = 0; place = r.place }

-- the numbers and what is lent, by what is located in a book: equations, so no second answer fits
pub record Copies (xs : List ℕ) (o : Outcome Found) (values masks : List ℕ) (r : CopiedNumbers) (new_values new_masks : List ℕ) : Type 0 where
  pub says : r ≡ copied_numbers o
  pub values-hold : new_values ≡ values_after xs values o
  pub masks-hold : new_masks ≡ masks_after xs masks o
