-- What a reader answers, and how readers are put together.
-- A reader gets a whole line and a place in it, and answers a value with the place behind it, or why and where it came to a halt.
-- The reasons: 1 no digit, 2 over 32 bits, 3 over 255, 4 anything else.
-- Assumes nothing.
use Rattle.std.specs.Prelude.{suc, zero, ℕ, ◌+◌, Bool, List, [], ◌∷◌}
use Rattle.std.proofs.Math.Option.{Option, none, some}
use Rattle.format.specs.Lists.{pick}

-- a value and the place behind it, or a reason and a place
pub data Got (A : Type 0) : Type 0 where
  is : A → ℕ → Got A
  isnt : ℕ → ℕ → Got A

-- go on with what was read, from behind it
abbrev pub then : {A B : Type 0} → Got A → (A → ℕ → Got B) → Got B
then (is a at) f = f a at
then (isnt r at) f = isnt r at

-- a line and a place in it, to an answer
abbrev pub Reader : Type 0 → Type 0
Reader A = List ℕ → ℕ → Got A

-- one reader behind another, with and without what the first read
infixl 10 ◌>>=◌
infixl 10 ◌>>◌
abbrev pub ◌>>=◌ : {A B : Type 0} → Reader A → (A → Reader B) → Reader B
◌>>=◌ m f = λ s at. then (m s at) (λ a next. f a s next)

abbrev pub ◌>>◌ : {A B : Type 0} → Reader A → Reader B → Reader B
◌>>◌ m n = λ s at. then (m s at) (λ a next. n s next)

-- a value for which no byte is used
abbrev pub give : {A : Type 0} → A → Reader A
give a = λ s at. is a at

-- the reader's value if it passes, else reason 4 at its first byte
abbrev pub only : {A : Type 0} → Reader A → (A → Bool) → Reader A
only m p = λ s at. then (m s at) (λ a next. pick (p a) (is a next) (isnt 4 at))

-- the thing if it can be read, else nothing and no byte used
abbrev pub or_none : {A : Type 0} → Got A → ℕ → Got (Option A)
or_none (is a next) at = is (some a) next
or_none (isnt r p) at = is none at

unfoldable pub optional : {A : Type 0} → Reader A → Reader (Option A)
optional m s at = or_none (m s at) at

-- the first answer if it is one, else the second if it is one, else the first
abbrev pub or_else : {A : Type 0} → Got A → Got A → Got A
or_else (is a u) o = is a u
or_else (isnt r p) (is a u) = is a u
or_else (isnt r p) (isnt r' p') = isnt r p

-- an answer about a line that stands n bytes further on
abbrev pub shifted : {A B : Type 0} → ℕ → (A → B) → Got A → Got B
shifted n g (is a u) = is (g a) (n + u)
shifted n g (isnt r p) = isnt r (n + p)

-- things read one after another, and the place behind the last
pub record Listed (A : Type 0) : Type 0 where
  pub items : List A
  pub end : ℕ

abbrev pub again : {A : Type 0} → Got A → (ℕ → Listed A) → ℕ → Listed A
again (is a next) rest at = record { items = a ∷ (rest next).items; end = (rest next).end }
again (isnt r p) rest at = record { items = []; end = at }

-- as many of a thing as can be read; fuel is the line's length
unfoldable pub many : {A : Type 0} → ℕ → Reader A → List ℕ → ℕ → Listed A
many zero item s at = record { items = []; end = at }
many (suc f) item s at = again (item s at) (λ next. many f item s next) at
