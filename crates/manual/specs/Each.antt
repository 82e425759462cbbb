-- A property of each element of a list; bytes.
-- Assumes nothing.
use Rattle.std.specs.Prelude.{ℕ, ◌<◌, ◌≡◌, Bool, true, List, [], ◌∷◌}

abbrev pub Each : {A : Type 0} → (A → Type 0) → List A → Type 0
Each P [] = Unit {0}
Each P (a ∷ as') = P a × Each P as'

-- every byte passes the test
abbrev pub Passes : (ℕ → Bool) → List ℕ → Type 0
Passes p w = Each (λ b. p b ≡ true) w

abbrev pub IsByte : ℕ → Type 0
IsByte b = b < 256
