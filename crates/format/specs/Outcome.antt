-- An answer, or a refusal with its number and place; and a fold that a refusal ends.
-- Assumes nothing.
use Rattle.std.specs.Prelude.{ℕ, List, [], ◌∷◌}

-- a value, or a refusal
pub data Outcome (A : Type 0) : Type 0 where
  fine : A → Outcome A
  refused : (number place : ℕ) → Outcome A

-- go on where there is no refusal
abbrev pub and_then : {A B : Type 0} → Outcome A → (A → Outcome B) → Outcome B
and_then (fine a) f = f a
and_then (refused n p) f = refused n p

-- one step for each element, until one refuses
unfoldable pub fold : {S A : Type 0} → (S → A → Outcome S) → S → List A → Outcome S
fold step s [] = fine s
fold step s (x ∷ xs) = and_then (step s x) (λ s'. fold step s' xs)
