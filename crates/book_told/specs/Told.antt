-- What the lent bytes and numbers hold after a book was written.
-- Assumes nothing.
use Rattle.std.specs.Prelude.{ℕ, ◌≡◌, List, length, Result}
use Rattle.std.proofs.lemmas.List.Edits.{sets}
use Rattle.format.specs.Outcome.{Outcome, fine, refused, and_then}
use Rattle.book.specs.Given.{packed, numbers_of}
use Rattle.book_plan.specs.Told.{wrote_of}
use Rattle.book_plan.specs.declared.plan.Refusal.{Refusal}

-- what is answered: how long the packed book is, or its refusal
unfoldable pub answer_to : List ℕ → List ℕ → (n numbers room : ℕ) → Outcome ℕ
answer_to pool rows n numbers room = and_then (packed pool rows n numbers room) (λ b. fine (length b))

-- the lent bytes: the book, and behind it what they held before; as they were on a refusal
abbrev pub bytes_after : List ℕ → Outcome (List ℕ) → List ℕ
bytes_after old (fine b) = sets old 0 b
bytes_after old (refused n p) = old

-- the lent numbers: those of the entries in order of names, and behind them what they held before; as they were on a refusal
abbrev pub numbers_after : List ℕ → List ℕ → Outcome (List ℕ) → List ℕ
numbers_after old js (fine b) = sets old 0 js
numbers_after old js (refused n p) = old

-- the answer, the lent bytes and the lent numbers, by what is packed
pub record Written (pool rows : List ℕ) (n : ℕ) (out order : List ℕ) (r : Result ℕ Refusal) (new_out new_order : List ℕ) : Type 0 where
  pub answer : and_then (packed pool rows n (length order) (length out)) (λ b. fine (length b)) ≡ wrote_of r
  pub bytes-hold : new_out ≡ bytes_after out (packed pool rows n (length order) (length out))
  pub numbers-hold : new_order ≡ numbers_after order (numbers_of pool rows n) (packed pool rows n (length order) (length out))
