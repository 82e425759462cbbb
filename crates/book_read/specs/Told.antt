-- What copying a pattern answers, and what the lent values and masks hold afterwards.
-- Assumes nothing.
use Rattle.std.specs.Prelude.{ℕ, ◌≡◌, List, Result, Ok, Err}
use Rattle.std.proofs.lemmas.List.Edits.{sets}
use Rattle.format.specs.Outcome.{Outcome, fine, refused}
use Rattle.book.specs.Found.{Found, Pattern, pattern_at}
use Rattle.book_open.specs.declared.open.Refusal.{Refusal}

-- the answer: how many positions, or the refusal
abbrev pub answer_of : Outcome Found → Result ℕ Refusal
answer_of (fine f) = Ok f.size
answer_of (refused n p) = Err (record { number = n; place = p })

-- the lent values: the pattern's first, behind them what they held before; as they were on a refusal
abbrev pub values_after : List ℕ → List ℕ → Outcome Found → List ℕ
values_after xs old (fine f) = sets old 0 (pattern_at xs f).values
values_after xs old (refused n p) = old

-- the lent masks
abbrev pub masks_after : List ℕ → List ℕ → Outcome Found → List ℕ
masks_after xs old (fine f) = sets old 0 (pattern_at xs f).masks
masks_after xs old (refused n p) = old

-- the answer and what is lent, by what is located in a book: equations, so no second answer fits
pub record Copying (xs : List ℕ) (o : Outcome Found) (values masks : List ℕ) (r : Result ℕ Refusal) (new_values new_masks : List ℕ) : Type 0 where
  pub answer : r ≡ answer_of o
  pub values-hold : new_values ≡ values_after xs values o
  pub masks-hold : new_masks ≡ masks_after xs masks o
